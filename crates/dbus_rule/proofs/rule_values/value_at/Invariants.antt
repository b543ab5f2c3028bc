use Rattle.std.proofs.Common.{drop}
use Rattle.dbus_rule.specs.Rules.{condition_pairs, HasKey}
use Rattle.dbus_rule.proofs.rule_values.value_at.Given as goal

-- if any has the key, then one of those left
abbrev pub invariant-loop-condition : goal.invariant-loop-condition
invariant-loop-condition g l = HasKey l.key (condition_pairs l.conditions) → HasKey l.key (condition_pairs (drop l.condition-index l.conditions))
