use Rattle.dbus_call_lines.proofs.LineLaws.{two_parts}
use Rattle.dbus_call_lines.proofs.laws.two_parts.Goals as goal

pub returns : goal.returns
returns c = two_parts
