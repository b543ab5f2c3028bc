use Rattle.dbus_call_lines.proofs.Written.{are_lines}
use Rattle.dbus_call_lines.proofs.laws.are_lines.Goals as goal

pub returns : goal.returns
returns c = are_lines
