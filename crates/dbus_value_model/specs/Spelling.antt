-- Trusted by the headline.
-- The one spelling of each value at an offset: the marshalling relation of one value.
-- D-Bus Specification, "Marshalling basic types", "Marshalling containers".
use Rattle.std.specs.Prelude.{◌≡◌, ℕ, ◌+◌, ◌≤◌, List, [], ◌∷◌, ◌++◌, length}
use Rattle.dbus_texts.specs.Types.{TypeTree, sig}
use Rattle.dbus_types.specs.Alignments.{width, length_width, alignment_of}
use Rattle.dbus_value_model.specs.declared.order.Order.{Order}
use Rattle.dbus_value_model.specs.declared.limits.Bounds.{Bounds}
use Rattle.dbus_value_model.specs.Bytes.{gap_to, pad, num}
use Rattle.dbus_value_model.specs.FdIndexes.{AreIndexesBelow}
use Rattle.dbus_value_model.specs.Values.{ValueTree, ValueTrees, NumberValue, TextValue, VariantValue, ArrayValue, StructValue, EntryValue, NoValues, MoreValues, type_of, IsWellFormed}

-- where the contents of an array at o begin
abbrev pub contents_start : TypeTree → ℕ → ℕ
contents_start t o = o + gap_to 4 o + 4 + gap_to (alignment_of t) (o + gap_to 4 o + 4)

abbrev pub ended_text : Order → ℕ → List ℕ → List ℕ
ended_text order w t = num order w (length t) ++ (t ++ 0 ∷ [])

unfoldable mutual
  pub spelling : Order → ℕ → ValueTree → List ℕ
  spelling order o (NumberValue k n) = pad (width k) o ++ num order (width k) n
  spelling order o (TextValue k t) = pad (length_width k) o ++ ended_text order (length_width k) t
  spelling order o (VariantValue x) = let t = sig (type_of x) in ended_text order 1 t ++ spelling order (o + length (ended_text order 1 t)) x
  spelling order o (ArrayValue t xs) =
      let c = spellings order (contents_start t o) xs in
      pad 4 o ++ (num order 4 (length c) ++ (pad (alignment_of t) (o + gap_to 4 o + 4) ++ c))
  spelling order o (StructValue xs) = pad 8 o ++ spellings order (o + gap_to 8 o) xs
  spelling order o (EntryValue k v) =
      let p = o + gap_to 8 o in
      let key = spelling order p k in
      pad 8 o ++ (key ++ spelling order (p + length key) v)

  pub spellings : Order → ℕ → ValueTrees → List ℕ
  spellings order o NoValues = []
  spellings order o (MoreValues x xs) = let s = spelling order o x in s ++ spellings order (o + length s) xs

-- the contents of every array in it have no more than so many bytes
abbrev mutual
  pub IsWithinLimits : (array : ℕ) → Order → ℕ → ValueTree → Type 0
  IsWithinLimits array order o (NumberValue k n) = Unit {0}
  IsWithinLimits array order o (TextValue k t) = Unit {0}
  IsWithinLimits array order o (VariantValue x) = IsWithinLimits array order (o + length (ended_text order 1 (sig (type_of x)))) x
  IsWithinLimits array order o (ArrayValue t xs) = (length (spellings order (contents_start t o) xs) ≤ array) × AreWithinLimits array order (contents_start t o) xs
  IsWithinLimits array order o (StructValue xs) = AreWithinLimits array order (o + gap_to 8 o) xs
  IsWithinLimits array order o (EntryValue k v) = IsWithinLimits array order (o + gap_to 8 o) k × IsWithinLimits array order (o + gap_to 8 o + length (spelling order (o + gap_to 8 o) k)) v

  pub AreWithinLimits : (array : ℕ) → Order → ℕ → ValueTrees → Type 0
  AreWithinLimits array order o NoValues = Unit {0}
  AreWithinLimits array order o (MoreValues x xs) = IsWithinLimits array order o x × AreWithinLimits array order (o + length (spelling order o x)) xs

-- A value of type t, well formed, is spelled at o by the prefix of the bytes s that stand there. It
-- ends at q, which is not past the end, and r are the bytes from there on.
pub record Spelled (bounds : Bounds) (order : Order) (depth_left end : ℕ) (t : TypeTree) (o : ℕ) (s : List ℕ) (v : ValueTree) (q : ℕ) (r : List ℕ) : Type 0 where
  pub has_type : type_of v ≡ t
  pub formed : IsWellFormed depth_left v
  pub within : IsWithinLimits bounds.array order o v
  pub indexes : AreIndexesBelow bounds.fds v
  pub bytes : s ≡ spelling order o v ++ r
  pub place : q ≡ o + length (spelling order o v)
  pub bound : q ≤ end
