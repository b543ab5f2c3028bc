use Rattle.dbus_header.proofs.OutcomeLaws.{one_whole}
use Rattle.dbus_message.proofs.laws.one_whole.Goals as goal

pub returns : goal.returns
returns c = one_whole
