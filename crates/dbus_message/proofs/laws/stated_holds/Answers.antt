use Rattle.dbus_header.proofs.StatedLengths.{stated_holds}
use Rattle.dbus_message.proofs.laws.stated_holds.Goals as goal

pub returns : goal.returns
returns c = stated_holds
