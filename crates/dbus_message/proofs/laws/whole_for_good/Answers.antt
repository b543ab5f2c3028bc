use Rattle.dbus_header.proofs.OutcomeLaws.{whole_for_good}
use Rattle.dbus_message.proofs.laws.whole_for_good.Goals as goal

pub returns : goal.returns
returns c = whole_for_good
