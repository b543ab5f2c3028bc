use Rattle.dbus_json_laws.proofs.KeptLines.{one_message_of}
use Rattle.dbus_json_laws.proofs.laws.one_message_of_a_line.Goals as goal

pub returns : goal.returns
returns c = one_message_of
