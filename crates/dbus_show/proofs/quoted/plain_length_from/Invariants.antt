use Rattle.std.proofs.Common.{length, ◌-◌}
use Rattle.dbus_show.specs.PlainFronts.{IsPlainFront}
use Rattle.dbus_show.proofs.quoted.plain_length_from.Given as goal

abbrev pub invariant-loop-at : goal.invariant-loop-at
invariant-loop-at l = IsPlainFront l.escapes l.text l.at

abbrev pub decreases-loop-at : goal.decreases-loop-at
decreases-loop-at l = length l.bytes - l.at
