use Rattle.dbus_rule_set.proofs.GroupedTexts.{taken}
use Rattle.dbus_rule_set.proofs.groups.forget.Goals as goal

pub returns-clause-left : goal.returns-clause-left
returns-clause-left c = λ t. taken c.args.text.now c.args.group.now c.remove.new.self c.remove.ensures.updates t
