use Rattle.dbus_rule.proofs.Unique.{one_rule}
use Rattle.dbus_rule.proofs.laws.one_rule.Goals as goal

pub returns : goal.returns
returns c = one_rule
