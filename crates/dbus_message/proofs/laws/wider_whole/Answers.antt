use Rattle.dbus_header.proofs.OutcomeLaws.{wider_whole}
use Rattle.dbus_message.proofs.laws.wider_whole.Goals as goal

pub returns : goal.returns
returns c = wider_whole
