use Rattle.std.proofs.Common.{◌≡◌, drop}
use Rattle.dbus_rule.specs.Rules.{condition_pairs, sender_of}
use Rattle.dbus_rule.proofs.rule_values.sender_at.Given as goal

-- none before is the sender
abbrev pub invariant-loop-condition : goal.invariant-loop-condition
invariant-loop-condition g l = sender_of (condition_pairs l.conditions) ≡ sender_of (condition_pairs (drop l.condition-index l.conditions))
