-- The kinds of text, and the types that a text spells, as slow functions for definitions that
-- compute. That they agree with the sets of Kinds and with the texts of Types is proved. D-Bus
-- Specification, "Basic types", "Valid Object Paths", "Valid Names" and "Valid Signatures".
use Rattle.std.specs.Prelude.{ℕ, zero, suc, List, [], ◌∷◌, ◌++◌, length, Bool, true, false, ◌&&◌, nat_eq, nat_lt, Option, Some, None, if◌then◌else◌}
use Rattle.dbus_texts.specs.declared.text_kind.TextKind.{TextKind}
use Rattle.dbus_texts.specs.declared.text_kind.TextKind.TheVariants.{Text, Path, Interface, Member, ErrorName, BusName, Signature, Single}
use Rattle.dbus_texts.specs.declared.names.Letters.TheVariants.{Word, Name, Unique}
use Rattle.dbus_texts.specs.declared.names.Tail.TheVariants.{Alone, Needed, Free}
use Rattle.dbus_texts.specs.declared.names.Place.TheVariants.{PathStart, BusStart, First}
use Rattle.dbus_texts.specs.declared.utf8.Utf8Place.TheVariants as utf8
use Rattle.dbus_texts.specs.NameScans.{name_state, name_next, name_end}
use Rattle.dbus_texts.specs.Utf8Scans.{text_next, text_end}
use Rattle.dbus_texts.specs.SignatureScans.{sig_next, sig_end}
use Rattle.dbus_texts.specs.SigViews.{sig_start}
use Rattle.dbus_texts.specs.Types.{TypeTree, TypeTrees, NumberType, TextType, VariantType, ArrayType, StructType, EntryType, NoTypes, MoreTypes, BYTE, BOOLEAN, INT16, UINT16, INT32, UINT32, INT64, UINT64, DOUBLE, UNIX_FD, STRING, OBJECT_PATH, SIGNATURE}

-- how many bytes the steps take from a state
abbrev pub taken : {S : Type 0} → (S → ℕ → Option S) → S → List ℕ → ℕ
taken next s [] = 0
taken next s (b ∷ w) = elim (next s b) [ None ↦ 0 | Some t ↦ suc (taken next t w) ]

-- whether they take all, and may end there
abbrev pub accepts : {S : Type 0} → (S → ℕ → Option S) → (S → Bool) → S → List ℕ → Bool
accepts next end s [] = end s
accepts next end s (b ∷ w) = elim (next s b) [ None ↦ false | Some t ↦ accepts next end t w ]

-- whether a text is of the kind, its length aside
abbrev pub is_of_kind : TextKind → List ℕ → Bool
is_of_kind Text w = accepts text_next text_end utf8.Free w
is_of_kind Path w = accepts name_next name_end (name_state PathStart Word Free) w
is_of_kind Interface w = accepts name_next name_end (name_state First Name Needed) w
is_of_kind Member w = accepts name_next name_end (name_state First Name Alone) w
is_of_kind ErrorName w = accepts name_next name_end (name_state First Name Needed) w
is_of_kind BusName w = accepts name_next name_end (name_state BusStart Unique Needed) w
is_of_kind Signature w = accepts sig_next sig_end (sig_start false) w
is_of_kind Single w = accepts sig_next sig_end (sig_start true) w

-- whether a text is of the kind
unfoldable pub is_kind : TextKind → List ℕ → Bool
is_kind Text w = is_of_kind Text w
is_kind Path w = is_of_kind Path w
is_kind Interface w = is_of_kind Interface w && nat_lt (length w) 256
is_kind Member w = is_of_kind Member w && nat_lt (length w) 256
is_kind ErrorName w = is_of_kind ErrorName w && nat_lt (length w) 256
is_kind BusName w = is_of_kind BusName w && nat_lt (length w) 256
is_kind Signature w = is_of_kind Signature w && nat_lt (length w) 256
is_kind Single w = is_of_kind Single w && nat_lt (length w) 256

-- the length of the longest prefix of a text with which some text of the kind begins
unfoldable pub break_at : TextKind → List ℕ → ℕ
break_at Text w = taken text_next utf8.Free w
break_at Path w = taken name_next (name_state PathStart Word Free) w
break_at Interface w = taken name_next (name_state First Name Needed) w
break_at Member w = taken name_next (name_state First Name Alone) w
break_at ErrorName w = taken name_next (name_state First Name Needed) w
break_at BusName w = taken name_next (name_state BusStart Unique Needed) w
break_at Signature w = taken sig_next (sig_start false) w
break_at Single w = taken sig_next (sig_start true) w

-- the kinds of names, which are ASCII
abbrev pub IsName : TextKind → Type 0
IsName Text = ⊥
IsName Path = ⊥
IsName Interface = Unit {0}
IsName Member = Unit {0}
IsName ErrorName = Unit {0}
IsName BusName = Unit {0}
IsName Signature = ⊥
IsName Single = ⊥

-- what the first byte of a type says
pub data Opening : Type 0 where
  OneCode : TypeTree → Opening
  AnArray : Opening
  AStruct : Opening
  AnEntry : Opening
  Nothing : Opening

abbrev pub opening : ℕ → Opening
opening c =
    if nat_eq c 121 then OneCode (NumberType BYTE) else if nat_eq c 98 then OneCode (NumberType BOOLEAN)
    else if nat_eq c 110 then OneCode (NumberType INT16) else if nat_eq c 113 then OneCode (NumberType UINT16)
    else if nat_eq c 105 then OneCode (NumberType INT32) else if nat_eq c 117 then OneCode (NumberType UINT32)
    else if nat_eq c 120 then OneCode (NumberType INT64) else if nat_eq c 116 then OneCode (NumberType UINT64)
    else if nat_eq c 100 then OneCode (NumberType DOUBLE) else if nat_eq c 104 then OneCode (NumberType UNIX_FD)
    else if nat_eq c 115 then OneCode (TextType STRING) else if nat_eq c 111 then OneCode (TextType OBJECT_PATH)
    else if nat_eq c 103 then OneCode (TextType SIGNATURE) else if nat_eq c 118 then OneCode VariantType
    else if nat_eq c 97 then AnArray else if nat_eq c 40 then AStruct else if nat_eq c 123 then AnEntry else Nothing

abbrev pub and_then : {A B : Type 0} → Option A → (A → Option B) → Option B
and_then None f = None
and_then (Some x) f = f x

abbrev pub closed : ℕ → TypeTree → List ℕ → Option (TypeTree × List ℕ)
closed c t [] = None
closed c t (b ∷ s) = if nat_eq b c then Some (t, s) else None

-- the type at the start of a text, and what is left; types up to `)`: with as many turns as the
-- text has bytes
unfoldable mutual
  pub parse : ℕ → List ℕ → Option (TypeTree × List ℕ)
  parse zero s = None
  parse (suc turns) [] = None
  parse (suc turns) (c ∷ s) = elim (opening c) [
    | OneCode t ↦ Some (t, s)
    | AnArray ↦ and_then (parse turns s) (λ x. Some (ArrayType x.0, x.1))
    | AStruct ↦ and_then (parses turns s) (λ x. Some (StructType x.0, x.1))
    | AnEntry ↦ and_then (parse turns s) (λ k. and_then (parse turns k.1) (λ v. closed 125 (EntryType k.0 v.0) v.1))
    | Nothing ↦ None
  ]

  pub parses : ℕ → List ℕ → Option (TypeTrees × List ℕ)
  parses zero s = None
  parses (suc turns) [] = None
  parses (suc turns) (c ∷ s) = elim (nat_eq c 41) [
    | true ↦ Some (NoTypes, s)
    | false ↦ and_then (parse turns (c ∷ s)) (λ x. and_then (parses turns x.1) (λ xs. Some (MoreTypes x.0 xs.0, xs.1)))
  ]

-- the type that a text of kind Single spells
unfoldable pub type_spelled : List ℕ → TypeTree
type_spelled t = elim (parse (length t) t) [ Some x ↦ x.0 | None ↦ NumberType BYTE ]

-- the types that a text of kind Signature spells
unfoldable pub types_spelled : List ℕ → TypeTrees
types_spelled t = elim (parses (suc (length t)) (t ++ 41 ∷ [])) [ Some x ↦ x.0 | None ↦ NoTypes ]
