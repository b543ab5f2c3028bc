use Rattle.std.proofs.Common.{inr, refl, arith}
use Rattle.dbus_rule_set.proofs.standing.crowd.Goals as goal

pub rules_between-rule-items-requires : goal.rules_between-rule-items-requires
rules_between-rule-items-requires g c = inr (refl, omega arith)
