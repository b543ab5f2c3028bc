use Rattle.std.proofs.Common.{◌-◌, ◌≤◌, take, drop}
use Rattle.std.specs.List.{AllByRecursion}
use Rattle.std.specs.Int.{IsInRange}
use Rattle.dbus_value_validator.proofs.plain.is_plain.Given as goal

abbrev pub invariant-loop-at : goal.invariant-loop-at
invariant-loop-at l = record { begun : l.fn.start ≤ l.at; within : l.at ≤ l.end; plain : AllByRecursion (IsInRange 1 127) (take (l.at - l.fn.start) (drop l.fn.start l.bytes)) }

abbrev pub decreases-loop-at : goal.decreases-loop-at
decreases-loop-at l = l.end - l.at
