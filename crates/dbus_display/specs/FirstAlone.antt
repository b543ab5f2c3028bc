-- The first of several values.
-- D-Bus Specification, "Marshaling (Wire Format)".
use Rattle.std.specs.Prelude.{◌≡◌, ℕ, List}
use Rattle.dbus_value_model.specs.Values.{ValueTree, ValueTrees, NoValues, MoreValues}
use Rattle.dbus_values.specs.States.{ValuesState, AreLeft}

-- the first of some trees is left, and nothing else
abbrev pub IsFirstAlone : ValueTrees → ValuesState → Type 0
IsFirstAlone xs first = (x : ValueTree) × (us : ValueTrees) × (after : List ℕ) × (xs ≡ MoreValues x us) × AreLeft first (MoreValues x NoValues) after
