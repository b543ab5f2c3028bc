use Rattle.dbus_header.proofs.OutcomeLaws.{one_length}
use Rattle.dbus_message.proofs.laws.one_length.Goals as goal

pub returns : goal.returns
returns c = one_length
