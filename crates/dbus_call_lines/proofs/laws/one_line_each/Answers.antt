use Rattle.dbus_call_lines.proofs.Rows.{one_line_each}
use Rattle.dbus_call_lines.proofs.laws.one_line_each.Goals as goal

pub returns : goal.returns
returns c = one_line_each
