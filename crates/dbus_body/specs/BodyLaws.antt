-- What the calls spell, one after another, from any bytes on: values as the marshalling relation
-- has them. D-Bus Specification, "Marshaling (Wire Format)".
use Rattle.std.specs.Prelude.{◌≡◌, ℕ, List, ◌++◌}
use Rattle.dbus_texts.specs.Types.{NumberCode, TypeTree, STRING, OBJECT_PATH, SIGNATURE, sig}
use Rattle.dbus_types.specs.Alignments.{width, alignment_of}
use Rattle.dbus_value_model.specs.declared.order.Order.{Order}
use Rattle.dbus_value_model.specs.SizeLimits.{with_padding, with_value, with_values}
use Rattle.dbus_value_model.specs.Bytes.{num}
use Rattle.dbus_value_model.specs.Values.{ValueTree, ValueTrees, NumberValue, TextValue, VariantValue, ArrayValue, StructValue, EntryValue, type_of}
use Rattle.dbus_body.specs.Arrays.{opened, place_of, closed}

-- A number in its width, a path put as a STRING is, the fields of a struct and of a dict entry
-- after the padding, the value of a variant after its signature, and the elements of an array
-- between its opening and its closing.
pub record CallsSpell (order : Order) (front : List ℕ) : Type 0 where
  pub number : (k : NumberCode) (n : ℕ) → with_padding (width k) front ++ num order (width k) n ≡ with_value order (NumberValue k n) front
  pub path : (t : List ℕ) → with_value order (TextValue STRING t) front ≡ with_value order (TextValue OBJECT_PATH t) front
  pub struct : (xs : ValueTrees) → with_values order xs (with_padding 8 front) ≡ with_value order (StructValue xs) front
  pub entry : (k v : ValueTree) → with_value order v (with_value order k (with_padding 8 front)) ≡ with_value order (EntryValue k v) front
  pub variant : (x : ValueTree) → with_value order x (with_value order (TextValue SIGNATURE (sig (type_of x))) front) ≡ with_value order (VariantValue x) front
  pub array : (t : TypeTree) (xs : ValueTrees) →
      closed order (place_of (alignment_of t) front) (with_values order xs (opened (alignment_of t) front)) ≡ with_value order (ArrayValue t xs) front
