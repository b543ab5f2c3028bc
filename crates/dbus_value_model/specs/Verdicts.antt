-- What is found of the parts of a value, in one walk over it. The type of the whole is no matter of
-- a part. D-Bus Specification, "Type System", "Message Protocol" for the limit on nesting.
use Rattle.std.specs.Prelude.{ℕ, List, IsTrue}
use Rattle.dbus_value_model.specs.Values.{ValueTree, ValueTrees, NumberValue, TextValue, VariantValue, ArrayValue, StructValue, EntryValue, NoValues, MoreValues, IsNumber}
use Rattle.dbus_value_model.specs.Forming.{NestsWithin, NestWithin, IsUniform, AreUniform, IsNamed, AreNamed}
use Rattle.dbus_value_model.specs.PackedBytes.{keeps_bytes, keep_bytes}
use Rattle.dbus_value_model.specs.ValueViews.{value_tree, value_trees_of}
use Rattle.dbus_value_model.specs.declared.value.Value.{Value}
use Rattle.dbus_value_model.specs.declared.verdict.Verdict.{Verdict}
use Rattle.dbus_value_model.specs.declared.verdict.Verdict.TheVariants.{TooDeep, Mixed, Misnamed, Sound}

-- Numbers in their ranges, which no `Value` breaks.
-- D-Bus Specification, "Type System", "Basic types".

-- every number is one of its type's
abbrev mutual
  pub HoldsNumbers : ValueTree → Type 0
  HoldsNumbers (NumberValue k n) = IsNumber k n
  HoldsNumbers (TextValue k t) = Unit {0}
  HoldsNumbers (VariantValue x) = HoldsNumbers x
  HoldsNumbers (ArrayValue t xs) = HoldNumbers xs
  HoldsNumbers (StructValue xs) = HoldNumbers xs
  HoldsNumbers (EntryValue k v) = HoldsNumbers k × HoldsNumbers v

  pub HoldNumbers : ValueTrees → Type 0
  HoldNumbers NoValues = Unit {0}
  HoldNumbers (MoreValues x xs) = HoldsNumbers x × HoldNumbers xs

-- Of two verdicts the one whose case comes first.
abbrev pub earlier : Verdict → Verdict → Verdict
earlier TooDeep other = TooDeep
earlier Mixed TooDeep = TooDeep
earlier Mixed Mixed = Mixed
earlier Mixed Misnamed = Mixed
earlier Mixed Sound = Mixed
earlier Misnamed TooDeep = TooDeep
earlier Misnamed Mixed = Mixed
earlier Misnamed Misnamed = Misnamed
earlier Misnamed Sound = Misnamed
earlier Sound other = other

-- The first that fails of three facts; where all hold, the numbers are in their ranges too.
abbrev pub IsVerdict : Type 0 → Type 0 → Type 0 → Type 0 → Verdict → Type 0
IsVerdict shallow fitting named ranged TooDeep = shallow → ⊥
IsVerdict shallow fitting named ranged Mixed = shallow × (fitting → ⊥)
IsVerdict shallow fitting named ranged Misnamed = shallow × fitting × (named → ⊥)
IsVerdict shallow fitting named ranged Sound = shallow × fitting × named × ranged

-- each part has a type that fits its place, if the whole's type does
abbrev pub Fits : {A : Type 0} → Value A → Type 0
Fits v = IsUniform (value_tree v) × IsTrue (keeps_bytes v)

abbrev pub Fit : {A : Type 0} → List (Value A) → Type 0
Fit vs = AreUniform (value_trees_of vs) × IsTrue (keep_bytes vs)

abbrev pub IsPartsVerdict : {A : Type 0} → ℕ → Value A → Verdict → Type 0
IsPartsVerdict depth_left v = IsVerdict (NestsWithin depth_left (value_tree v)) (Fits v) (IsNamed (value_tree v)) (HoldsNumbers (value_tree v))

abbrev pub ArePartsVerdict : {A : Type 0} → ℕ → List (Value A) → Verdict → Type 0
ArePartsVerdict depth_left vs = IsVerdict (NestWithin depth_left (value_trees_of vs)) (Fit vs) (AreNamed (value_trees_of vs)) (HoldNumbers (value_trees_of vs))
