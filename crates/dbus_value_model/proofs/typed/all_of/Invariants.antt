use Rattle.std.proofs.Common.{drop}
use Rattle.dbus_types.specs.SigTypes.{type_tree}
use Rattle.dbus_value_model.specs.Values.{AllOf}
use Rattle.dbus_value_model.specs.ValueViews.{value_trees_of}
use Rattle.dbus_value_model.proofs.typed.all_of.Given as goal

abbrev pub invariant-loop-value : goal.invariant-loop-value
invariant-loop-value g l = AllOf (type_tree l.ty) (value_trees_of (drop l.value-index l.values)) → AllOf (type_tree l.ty) (value_trees_of l.values)
