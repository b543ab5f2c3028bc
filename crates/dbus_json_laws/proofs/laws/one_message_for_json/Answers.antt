use Rattle.dbus_json_laws.proofs.OneMessage.{one_message}
use Rattle.dbus_json_laws.proofs.laws.one_message_for_json.Goals as goal

pub returns : goal.returns
returns c = one_message
