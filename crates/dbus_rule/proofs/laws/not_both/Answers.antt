use Rattle.dbus_rule.proofs.FaultLaws.{not_both}
use Rattle.dbus_rule.proofs.laws.not_both.Goals as goal

pub returns : goal.returns
returns c = not_both
