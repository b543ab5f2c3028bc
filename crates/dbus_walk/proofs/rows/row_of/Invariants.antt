use Rattle.std.proofs.Common.{◌-◌, length}
use Rattle.dbus_walk.specs.Standing.{IsRow}
use Rattle.dbus_walk.proofs.rows.row_of.Given as goal

abbrev pub invariant-loop-n : goal.invariant-loop-n
invariant-loop-n l = IsRow l.types l.lengths l.n

abbrev pub decreases-loop-n : goal.decreases-loop-n
decreases-loop-n l = length l.types - l.n
