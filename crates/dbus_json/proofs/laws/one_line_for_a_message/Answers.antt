use Rattle.dbus_json.proofs.OneLines.{one_line_each}
use Rattle.dbus_json.proofs.laws.one_line_for_a_message.Goals as goal

pub returns : goal.returns
returns c = one_line_each
