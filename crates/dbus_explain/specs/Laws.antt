-- Laws over what is said of a refused message: how it is explained, and in JSON.
use Rattle.std.specs.Prelude.{◌≡◌, ℕ, List, [], ◌∷◌, min}
use Rattle.dbus_texts.specs.Types.{DOUBLE}
use Rattle.dbus_value_model.specs.Values.{ValueTree, ValueTrees, NumberValue, TextValue, VariantValue, ArrayValue, StructValue, EntryValue, NoValues, MoreValues}
use Rattle.dbus_value_model.specs.declared.fault.Fault.{Fault}
use Rattle.dbus_message_model.specs.Messages.{FieldTree}
use Rattle.dbus_explain.specs.Explained.{IsExplained, place_in}
use Rattle.dbus_explain.specs.Heads.{AreWhole}
use Rattle.dbus_explain.specs.Members.{AreMembersOf}
use Rattle.dbus_explain.specs.Places.{fields_end}
use Rattle.dbus_explain.specs.declared.message.Refused.{Refused}

-- they are of one message: with the same bytes, as far as they were read, the same fault, and the
-- same place in the input
pub record AreOfOne (a b : Refused) : Type 0 where
  pub bytes : a.bytes.now ≡ b.bytes.now
  pub fault : a.fault ≡ b.fault
  pub number : a.number ≡ b.number
  pub offset : a.offset ≡ b.offset

-- it is explained in one way
abbrev pub OneExplanation : Type 0
OneExplanation = (a b : Refused) (x y : List ℕ) → AreOfOne a b → IsExplained a x → IsExplained b y → x ≡ y

-- A DOUBLE may be written by any digits that read as its bits.

-- a value has none in it
abbrev mutual
  pub HasNoDouble : ValueTree → Type 0
  HasNoDouble (NumberValue DOUBLE n) = ⊥
  HasNoDouble (NumberValue k n) = Unit {0}
  HasNoDouble (TextValue k t) = Unit {0}
  HasNoDouble (ArrayValue t xs) = HaveNoDouble xs
  HasNoDouble (StructValue xs) = HaveNoDouble xs
  HasNoDouble (EntryValue x y) = HasNoDouble x × HasNoDouble y
  HasNoDouble (VariantValue x) = HasNoDouble x

  pub HaveNoDouble : ValueTrees → Type 0
  HaveNoDouble NoValues = Unit {0}
  HaveNoDouble (MoreValues x xs) = HasNoDouble x × HaveNoDouble xs

-- nor have the values of these header fields
abbrev pub FieldsHaveNoDouble : List FieldTree → Type 0
FieldsHaveNoDouble [] = Unit {0}
FieldsHaveNoDouble (f ∷ fs) = HasNoDouble f.value × FieldsHaveNoDouble fs

-- nor has the header of a message that is refused, as far as it is whole before the place of the
-- fault
abbrev pub HeaderHasNoDouble : (bytes : List ℕ) → Fault → Type 0
HeaderHasNoDouble bytes fault = (fs : List FieldTree) → AreWhole bytes (min (place_in bytes fault) (fields_end bytes)) fs → FieldsHaveNoDouble fs

-- and it is said in JSON in one way, if its header has no DOUBLE
abbrev pub OneRefusal : Type 0
OneRefusal = (a b : Refused) (x y : List ℕ) → AreOfOne a b → HeaderHasNoDouble a.bytes.now a.fault → AreMembersOf a x → AreMembersOf b y → x ≡ y
