use Rattle.dbus_lines.proofs.LineLaws.{each_input}
use Rattle.dbus_lines.proofs.laws.each_input.Goals as goal

pub returns : goal.returns
returns c = each_input
