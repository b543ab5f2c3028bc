-- The first of the values that are left, by its type.
-- D-Bus Specification, "Marshaling (Wire Format)".
use Rattle.std.specs.Prelude.{◌≡◌, ℕ, List}
use Rattle.dbus_texts.specs.Types.{TypeTree}
use Rattle.dbus_value_model.specs.Values.{ValueTree, ValueTrees, MoreValues, type_of}
use Rattle.dbus_values.specs.States.{ValuesState, AreLeft}

-- the first of some values is this one, and the others are left
abbrev pub IsNext : ValueTree → ValueTrees → (rest : List ℕ) → ValuesState → Type 0
IsNext x xs rest left = (us : ValueTrees) × (xs ≡ MoreValues x us) × AreLeft left us rest

-- there is none, or the first one is of another type
abbrev pub IsOfAnother : TypeTree → ValueTrees → Type 0
IsOfAnother type xs = (x : ValueTree) (us : ValueTrees) → xs ≡ MoreValues x us → type_of x ≡ type → ⊥
