use Rattle.dbus_json_laws.proofs.Lines.{one_message}
use Rattle.dbus_json_laws.proofs.laws.one_message_for_a_line.Goals as goal

pub returns : goal.returns
returns c = one_message
