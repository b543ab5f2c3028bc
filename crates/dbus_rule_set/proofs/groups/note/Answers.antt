use Rattle.std.proofs.Common.{rules, ◌∙◌, ap}
use Rattle.dbus_rule_set.proofs.GroupedTexts.{added}
use Rattle.dbus_rule_set.proofs.groups.note.Goals as goal

pub returns-clause-noted : goal.returns-clause-noted
returns-clause-noted c = λ t. added c.args.text.now c.in_ok-text.text c.args.group.now c.insert.new.self (search rules) c.in_ok-insert.ensures.updates t
