use Rattle.std.proofs.Common.{◌≤◌}
use Rattle.dbus_rule_set.proofs.standing.crowd.Given as goal

abbrev pub invariant-loop-rule : goal.invariant-loop-rule
invariant-loop-rule g l = l.count ≤ 32
