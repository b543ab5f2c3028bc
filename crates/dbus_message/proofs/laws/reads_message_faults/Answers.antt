use Rattle.dbus_header.proofs.OutcomeLaws.{reads_message_faults}
use Rattle.dbus_message.proofs.laws.reads_message_faults.Goals as goal

pub returns : goal.returns
returns c = reads_message_faults
