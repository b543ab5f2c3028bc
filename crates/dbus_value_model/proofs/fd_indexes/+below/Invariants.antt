use Rattle.std.proofs.Common.{drop, Some}
use Rattle.dbus_value_model.specs.FdIndexes.{AreAllBelow}
use Rattle.dbus_value_model.specs.ValueViews.{value_trees_of}
use Rattle.dbus_value_model.proofs.fd_indexes.+below.Given as goal

abbrev pub invariant-are_below-loop-value : goal.invariant-are_below-loop-value
invariant-are_below-loop-value g l = AreAllBelow (Some l.limit) (value_trees_of (drop l.value-index l.values)) → AreAllBelow (Some l.limit) (value_trees_of l.values)
