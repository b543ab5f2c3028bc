use Rattle.dbus_header.proofs.OutcomeLaws.{reads_messages}
use Rattle.dbus_message.proofs.laws.reads_messages.Goals as goal

pub returns : goal.returns
returns c = reads_messages
