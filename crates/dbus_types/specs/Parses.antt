-- What the parsers and the writer of signatures answer.
-- D-Bus Specification, "Type System" ("Valid Signatures").
use Rattle.std.specs.Prelude.{◌≡◌, ℕ, ◌<◌, ◌≤◌, List, length, Result, Ok, Err, Vec, String, string_bytes, ◌∷◌, ◌++◌, ◌+◌, Bool, Option, Some, None}
use Rattle.dbus_texts.specs.declared.check.SigFault.{SigFault}
use Rattle.dbus_texts.specs.declared.check.SigFault.TheVariants as faults
use Rattle.dbus_texts.specs.declared.text_kind.TextKind.{TextKind}
use Rattle.dbus_texts.specs.declared.text_kind.TextKind.TheVariants.{Signature, Single}
use Rattle.dbus_texts.specs.Types.{TypeTrees, sig, sigs, IsSingleType, TypeTree, IsComplete, AreComplete}
use Rattle.dbus_texts.specs.PlainTypes.{AreSignatureTypes}
use Rattle.dbus_texts.specs.Kinds.{IsOfKind, IsBreak}
use Rattle.dbus_types.specs.declared.sig_type.SigType.{SigType}
use Rattle.dbus_types.specs.SigTypes.{type_tree, type_trees_of}

-- why the text is refused: want of memory says nothing of it
abbrev pub IsRefusal : TextKind → List ℕ → SigFault → Type 0
IsRefusal kind w faults.Memory = Unit {0}
IsRefusal kind w faults.TooLong = 255 < length w
IsRefusal kind w (faults.Bad at) = (length w ≤ 255) × (IsOfKind kind w → ⊥) × IsBreak kind w at

-- these are types that a signature spells, and w is the signature; or memory was out, and w is one;
-- or why w is none
abbrev pub IsParse : {A : Type 0} → List ℕ → Result (Vec (SigType A) A) SigFault → Type 0
IsParse w (Ok v) = AreSignatureTypes (type_trees_of v.items) × (sigs (type_trees_of v.items) ≡ w)
IsParse w (Err faults.Memory) = IsOfKind Signature w
IsParse w (Err e) = IsRefusal Signature w e

-- the same of exactly one type
abbrev pub IsSingleParse : {A : Type 0} → List ℕ → Result (SigType A) SigFault → Type 0
IsSingleParse w (Ok t) = IsSingleType (type_tree t) × (sig (type_tree t) ≡ w)
IsSingleParse w (Err faults.Memory) = IsOfKind Single w
IsSingleParse w (Err e) = IsRefusal Single w e

-- the text is the signature that spells the types; or why their text is none
abbrev pub IsSignatureText : {A : Type 0} → TypeTrees → Result (String A) SigFault → Type 0
IsSignatureText ts (Ok s) = AreSignatureTypes ts × (string_bytes s ≡ sigs ts)
IsSignatureText ts (Err e) = IsRefusal Signature (sigs ts) e

-- Types at the start of a list of bytes.
-- D-Bus Specification, "Type System" ("Valid Signatures").

-- some type stands at the start of w
pub record StartsType (w : List ℕ) : Type 0 where
  pub tree : TypeTree
  pub rest : List ℕ
  pub spelled : w ≡ sig tree ++ rest

-- w is a type's text, or that of several types
abbrev pub IsTypeText : List ℕ → Type 0
IsTypeText w = (t : TypeTree) × (w ≡ sig t)

abbrev pub IsTextOfTypes : List ℕ → Type 0
IsTextOfTypes w = (ts : TypeTrees) × (w ≡ sigs ts)

-- some types and `)` stand there
pub record StartsFields (w : List ℕ) : Type 0 where
  pub trees : TypeTrees
  pub rest : List ℕ
  pub spelled : w ≡ sigs trees ++ 41 ∷ rest

-- this type stands there, and then rest
pub record ReadsType {A : Type 0} (w : List ℕ) (t : SigType A) (rest : List ℕ) : Type 0 where
  pub spelled : w ≡ sig (type_tree t) ++ rest

-- these types and `)` stand there, and then rest
pub record ReadsFields {A : Type 0} (w : List ℕ) (ts : List (SigType A)) (rest : List ℕ) : Type 0 where
  pub spelled : w ≡ sigs (type_trees_of ts) ++ 41 ∷ rest

-- What is left of a number of bytes after the text of a type, if the type is complete.
-- D-Bus Specification, "Valid Signatures".

-- what is left of so many after n, if the condition holds and they are as many; else nothing
abbrev pub Leaves : Type 0 → ℕ → ℕ → Option ℕ → Type 0
Leaves holds n left (Some rest) = holds × (rest + n ≡ left)
Leaves holds n left None = holds → left < n

abbrev pub LeavesOfType : TypeTree → Bool → ℕ → ℕ → ℕ → Option ℕ → Type 0
LeavesOfType t inside arrays structs left rest = Leaves (IsComplete t inside arrays structs) (length (sig t)) left rest

abbrev pub LeavesOfTypes : TypeTrees → ℕ → ℕ → ℕ → Option ℕ → Type 0
LeavesOfTypes ts arrays structs left rest = Leaves (AreComplete ts arrays structs) (length (sigs ts)) left rest

-- What is left where a text could not be appended whole.

-- after the old bytes stands a prefix of the text, which may be none or all of it
pub record AppendsPrefix (old new text : List ℕ) : Type 0 where
  pub prefix : List ℕ
  pub more : List ℕ
  pub appended : new ≡ old ++ prefix
  pub spelled : text ≡ prefix ++ more
