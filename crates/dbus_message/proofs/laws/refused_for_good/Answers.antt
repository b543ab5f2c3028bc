use Rattle.dbus_header.proofs.OutcomeLaws.{refused_for_good}
use Rattle.dbus_message.proofs.laws.refused_for_good.Goals as goal

pub returns : goal.returns
returns c = refused_for_good
