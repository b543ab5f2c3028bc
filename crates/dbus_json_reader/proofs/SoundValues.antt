-- What makes values of one type equal: their numbers are in range, and their types.
use Rattle.std.proofs.Common.{◌≡◌, ℕ, zero, suc, ◌<◌, true, List, [], ◌∷◌, refl, sym, ap, ◌∙◌, subst, IsUtf8}
use Rattle.std.proofs.lemmas.Bool.{true≢false}
use Rattle.dbus_texts.specs.Types.{BYTE, TypeTree, TypeTrees, NumberType, VariantType, ArrayType, StructType, EntryType, NoTypes, MoreTypes}
use Rattle.dbus_texts.specs.PlainTypes.{is_byte}
use Rattle.dbus_value_model.specs.ByteNumbers.{IsBytes}
use Rattle.dbus_value_model.specs.Values as values
use Rattle.dbus_value_model.specs.Values.{ValueTree, ValueTrees, NumberValue, TextValue, VariantValue, ArrayValue, StructValue, EntryValue, NoValues, MoreValues, type_of, types_of, AllOf, IsWellFormed, AreWellFormed}
use Rattle.dbus_walk.proofs.NumberFacts.{number_of_type}
use Rattle.dbus_walk.proofs.ReadThere.{formed_utf8}
use Rattle.dbus_show.specs.ShownValues.{bytes_in}
use Rattle.dbus_json_reader.proofs.NumberTexts.{same_head}

-- ---- what is needed of a value

abbrev mutual
  pub Sound : ValueTree → Type 0
  Sound (NumberValue k n) = values.IsNumber k n
  Sound (TextValue k t) = IsUtf8 t
  Sound (VariantValue x) = Sound x
  Sound (ArrayValue t xs) = AllOf t xs × AreSound xs
  Sound (StructValue xs) = AreSound xs
  Sound (EntryValue x y) = Sound x × Sound y

  pub AreSound : ValueTrees → Type 0
  AreSound NoValues = Unit {0}
  AreSound (MoreValues x xs) = Sound x × AreSound xs

mutual
  pub sound : (depth : ℕ) (v : ValueTree) → IsWellFormed depth v → Sound v
  sound depth (NumberValue k n) h = h
  sound depth (TextValue k t) h = formed_utf8 depth k t h
  sound zero (VariantValue x) h = absurd h
  sound (suc depth) (VariantValue x) h = sound depth x h.1
  sound zero (ArrayValue t xs) h = absurd h
  sound (suc depth) (ArrayValue t xs) h = (h.0, are_sound depth xs h.1)
  sound zero (StructValue xs) h = absurd h
  sound (suc depth) (StructValue xs) h = are_sound depth xs h
  sound depth (EntryValue x y) h = (sound depth x h.0, sound depth y h.1)

  pub are_sound : (depth : ℕ) (xs : ValueTrees) → AreWellFormed depth xs → AreSound xs
  are_sound depth NoValues h = tt
  are_sound depth (MoreValues x xs) h = (sound depth x h.0, are_sound depth xs h.1)

-- values of the same types as far as both go
abbrev pub Alike : ValueTrees → ValueTrees → Type 0
Alike NoValues ys = Unit {0}
Alike (MoreValues x xs) NoValues = Unit {0}
Alike (MoreValues x xs) (MoreValues y ys) = (type_of x ≡ type_of y) × Alike xs ys

pub alike_all : (t : TypeTree) (xs ys : ValueTrees) → AllOf t xs → AllOf t ys → Alike xs ys
alike_all t NoValues ys h k = tt
alike_all t (MoreValues x xs) NoValues h k = tt
alike_all t (MoreValues x xs) (MoreValues y ys) h k = (h.0 ∙ sym k.0, alike_all t xs ys h.1 k.1)

abbrev first_type : TypeTree → TypeTrees → TypeTree
first_type u NoTypes = u
first_type u (MoreTypes t ts) = t

abbrev other_types : TypeTrees → TypeTrees
other_types NoTypes = NoTypes
other_types (MoreTypes t ts) = ts

pub alike_types : (xs ys : ValueTrees) → types_of xs ≡ types_of ys → Alike xs ys
alike_types NoValues ys e = tt
alike_types (MoreValues x xs) NoValues e = tt
alike_types (MoreValues x xs) (MoreValues y ys) e = (ap (first_type VariantType) e, alike_types xs ys (ap other_types e))

-- ---- arrays of BYTE

pub bytes_of : (t : TypeTree) (xs : ValueTrees) → is_byte t ≡ true → AllOf t xs → AllOf (NumberType BYTE) xs
bytes_of (NumberType BYTE) xs e h = h
bytes_of t xs e h = absurd (true≢false (sym e))

-- a value of this type is a byte
record OneByte (v : ValueTree) (xs : ValueTrees) : Type 0 where
  n : ℕ
  is : v ≡ NumberValue BYTE n
  fits : n < 256
  first : bytes_in (MoreValues v xs) ≡ n ∷ bytes_in xs

one_byte : (v : ValueTree) (xs : ValueTrees) → type_of v ≡ NumberType BYTE → Sound v → OneByte v xs
one_byte v xs e h =
    let p = number_of_type v BYTE e in
    record { n = p.0; is = p.1; fits = subst Sound p.1 h; first = ap (λ (u : ValueTree). bytes_in (MoreValues u xs)) p.1 }

pub are_bytes : (xs : ValueTrees) → AllOf (NumberType BYTE) xs → AreSound xs → IsBytes (bytes_in xs)
are_bytes NoValues h k = tt
are_bytes (MoreValues x xs) h k = let b = one_byte x xs h.0 k.0 in subst IsBytes (sym b.first) (b.fits, are_bytes xs h.1 k.1)

pub bytes_same : (xs ys : ValueTrees) → AllOf (NumberType BYTE) xs → AllOf (NumberType BYTE) ys → AreSound xs → AreSound ys → bytes_in xs ≡ bytes_in ys → xs ≡ ys
bytes_same NoValues NoValues h k f g e = refl
bytes_same NoValues (MoreValues y ys) h k f g e = absurd (none _ _ (e ∙ (one_byte y ys k.0 g.0).first))
  where
    none : (n : ℕ) (s : List ℕ) → [] ≡ n ∷ s → ⊥
    none n s e = cc
bytes_same (MoreValues x xs) NoValues h k f g e = absurd (none _ _ (sym e ∙ (one_byte x xs h.0 f.0).first))
  where
    none : (n : ℕ) (s : List ℕ) → [] ≡ n ∷ s → ⊥
    none n s e = cc
bytes_same (MoreValues x xs) (MoreValues y ys) h k f g e =
    let a = one_byte x xs h.0 f.0 in
    let b = one_byte y ys k.0 g.0 in
    let parts = same_head a.n b.n (bytes_in xs) (bytes_in ys) (sym a.first ∙ e ∙ b.first) in
    let same : x ≡ y = a.is ∙ ap (NumberValue BYTE) parts.0 ∙ sym b.is in
    ap (λ (u : ValueTree). MoreValues u xs) same ∙ ap (MoreValues y) (bytes_same xs ys h.1 k.1 f.1 g.1 parts.1)

-- ---- types within types

abbrev pub element : TypeTree → TypeTree
element (ArrayType t) = t
element t = t

abbrev pub parts_of : TypeTree → TypeTrees
parts_of (StructType ts) = ts
parts_of t = NoTypes

abbrev pub key_of : TypeTree → TypeTree
key_of (EntryType k v) = k
key_of t = t

abbrev pub held_by : TypeTree → TypeTree
held_by (EntryType k v) = v
held_by t = t
