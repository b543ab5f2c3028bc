use Rattle.std.proofs.Common.{◌≡◌, drop}
use Rattle.dbus_types.specs.SigTypes.{type_trees_of}
use Rattle.dbus_value_model.specs.Values.{types_of}
use Rattle.dbus_value_model.specs.ValueViews.{value_trees_of}
use Rattle.dbus_value_model.proofs.same_types.+has_type.Given as goal

abbrev pub invariant-have_types-loop-i : goal.invariant-have_types-loop-i
invariant-have_types-loop-i g l = types_of (value_trees_of (drop l.i l.values)) ≡ type_trees_of (drop l.i l.types) → types_of (value_trees_of l.values) ≡ type_trees_of l.types
