use Rattle.std.proofs.Common.{◌-◌, ◌≤◌, length}
use Rattle.dbus_rule.specs.Rules.{condition_pairs}
use Rattle.dbus_rule.proofs.RuleReadings.{IsReadUpTo}
use Rattle.dbus_rule.proofs.conditions.read_conditions.Given as goal

abbrev pub invariant-loop-bytes : goal.invariant-loop-bytes
invariant-loop-bytes g l = record { within : l.from ≤ length l.text; read : IsReadUpTo l.text l.from (condition_pairs l.conditions.items) }

abbrev pub decreases-loop-bytes : goal.decreases-loop-bytes
decreases-loop-bytes g l = length l.text - l.from
