use Rattle.std.proofs.Common.{arith}
use Rattle.std.proofs.lemmas.Map.Text.{text_keys}
use Rattle.dbus_rule_set.proofs.GroupedTexts.{on_any}
use Rattle.dbus_rule_set.proofs.groups.join.Goals as goal

pub returns-in_err-note-clause-failed : goal.returns-in_err-note-clause-failed
returns-in_err-note-clause-failed c = on_any c.from_residual.result (λ n u. grind (arith, text_keys))

pub returns-in-Some-clause-joined : goal.returns-in-Some-clause-joined
returns-in-Some-clause-joined c = λ n u. grind (arith, text_keys)

pub returns-clause-joined : goal.returns-clause-joined
returns-clause-joined c = λ n u. grind (arith, text_keys)
