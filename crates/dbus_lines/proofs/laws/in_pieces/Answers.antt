use Rattle.dbus_lines.proofs.LineLaws.{in_pieces}
use Rattle.dbus_lines.proofs.laws.in_pieces.Goals as goal

pub returns : goal.returns
returns c = in_pieces
