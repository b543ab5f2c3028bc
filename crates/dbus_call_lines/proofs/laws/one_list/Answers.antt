use Rattle.dbus_call_lines.proofs.Rows.{one_list}
use Rattle.dbus_call_lines.proofs.laws.one_list.Goals as goal

pub returns : goal.returns
returns c = one_list
