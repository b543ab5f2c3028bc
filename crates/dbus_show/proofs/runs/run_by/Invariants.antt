use Rattle.std.proofs.Common.{◌-◌, ◌≤◌, length, not}
use Rattle.std.specs.List.{prefix_len}
use Rattle.dbus_show.specs.PlainFronts.{is_stop}
use Rattle.dbus_show.proofs.runs.run_by.Given as goal

abbrev pub invariant-loop-at : goal.invariant-loop-at
invariant-loop-at g l = l.at ≤ prefix_len (λ b. not (is_stop l.beyond b)) l.bytes

abbrev pub decreases-loop-at : goal.decreases-loop-at
decreases-loop-at g l = length l.bytes - l.at
