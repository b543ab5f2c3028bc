-- Which values are well formed, and which case is answered where one is not. D-Bus Specification,
-- "Type System", "Valid Signatures", "Message Protocol" for the limit on nesting.
use Rattle.std.specs.Prelude.{ℕ, ◌-◌, Result, Ok, Err, IsTrue}
use Rattle.dbus_texts.specs.Types.{IsSingleType}
use Rattle.dbus_value_model.specs.Values.{type_of}
use Rattle.dbus_value_model.specs.Forming.{NestsWithin, IsUniform, IsNamed}
use Rattle.dbus_value_model.specs.PackedBytes.{keeps_bytes}
use Rattle.dbus_value_model.specs.ValueViews.{value_tree}
use Rattle.dbus_value_model.specs.declared.limits.Limits.{Limits}
use Rattle.dbus_value_model.specs.declared.value.Value.{Value}
use Rattle.dbus_value_model.specs.declared.value_fault.ValueFault.{ValueFault}
use Rattle.dbus_value_model.specs.declared.value_fault.ValueFault.TheVariants.{Memory, TooDeep, Mixed, Name, ArrayTooLong, TooLong}

-- Every part has a type that fits its place. The type of a part that is within no variant is a part
-- of the whole's type, so that the whole's type and those of variants' values speak for all: of the
-- limits, of structs that are empty, and of dict entries and their keys. The law
-- `WholesSpeakForParts` says so part by part.
pub record IsTyped {A : Type 0} (v : Value A) : Type 0 where
  pub single : IsSingleType (type_of (value_tree v))
  pub uniform : IsUniform (value_tree v)
  pub packed : IsTrue (keeps_bytes v)

-- What is answered of a value within so many open containers: the first case that holds of any
-- part. No memory is taken, so that Memory is never answered.
abbrev pub Refuses : {A : Type 0} → ValueFault → ℕ → Value A → Type 0
Refuses Memory depth_left v = ⊥
Refuses TooDeep depth_left v = NestsWithin depth_left (value_tree v) → ⊥
Refuses Mixed depth_left v = NestsWithin depth_left (value_tree v) × (IsTyped v → ⊥)
Refuses Name depth_left v = NestsWithin depth_left (value_tree v) × IsTyped v × (IsNamed (value_tree v) → ⊥)
Refuses ArrayTooLong depth_left v = ⊥
Refuses TooLong depth_left v = ⊥

abbrev pub Checks : {A : Type 0} → Limits → ℕ → Value A → Result (Unit {0}) ValueFault → Type 0
Checks limits depth v (Ok u) = NestsWithin (limits.depth - depth) (value_tree v) × IsTyped v × IsNamed (value_tree v)
Checks limits depth v (Err fault) = Refuses fault (limits.depth - depth) v
