use Rattle.dbus_lines.proofs.LineLaws.{one_list}
use Rattle.dbus_lines.proofs.laws.one_list.Goals as goal

pub returns : goal.returns
returns c = one_list
