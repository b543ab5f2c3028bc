use Rattle.std.proofs.Common.{arith}
use Rattle.std.proofs.lemmas.Map.Text.{text_keys}
use Rattle.dbus_rule_set.proofs.groups.leave.Goals as goal

pub returns-then-forget-clause-left : goal.returns-then-forget-clause-left
returns-then-forget-clause-left c = λ n u. grind (arith, text_keys)

pub returns-else-forget-clause-left : goal.returns-else-forget-clause-left
returns-else-forget-clause-left c = λ n u. grind (arith, text_keys)
