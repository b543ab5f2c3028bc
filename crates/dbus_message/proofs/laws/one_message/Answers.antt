use Rattle.dbus_header.proofs.OutcomeLaws.{one_message}
use Rattle.dbus_message.proofs.laws.one_message.Goals as goal

pub returns : goal.returns
returns c = one_message
