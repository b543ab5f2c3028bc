use Rattle.std.proofs.Common.{ℕ, Option, drop}
use Rattle.dbus_types.specs.Parses.{LeavesOfTypes}
use Rattle.dbus_value_model.specs.Values.{types_of}
use Rattle.dbus_value_model.specs.ValueViews.{value_trees_of}
use Rattle.dbus_value_model.proofs.typed.+type_left.Given as goal

abbrev pub invariant-types_left-loop-value : goal.invariant-types_left-loop-value
invariant-types_left-loop-value g l =
    (r : Option ℕ) → LeavesOfTypes (types_of (value_trees_of (drop l.value-index l.values))) 0 l.fn.structs l.left r → LeavesOfTypes (types_of (value_trees_of l.values)) 0 l.fn.structs l.fn.left r
