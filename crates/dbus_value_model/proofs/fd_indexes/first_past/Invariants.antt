use Rattle.std.proofs.Common.{ℕ, Option, Some, drop}
use Rattle.dbus_value_model.specs.FirstPast.{IsFirstPast}
use Rattle.dbus_value_model.specs.ValueViews.{value_trees_of}
use Rattle.dbus_value_model.proofs.fd_indexes.first_past.Given as goal

abbrev pub invariant-loop-i : goal.invariant-loop-i
invariant-loop-i g l = (r : Option ℕ) → IsFirstPast (Some l.limit) l.i (value_trees_of (drop l.i l.values)) r → IsFirstPast (Some l.limit) 0 (value_trees_of l.values) r
