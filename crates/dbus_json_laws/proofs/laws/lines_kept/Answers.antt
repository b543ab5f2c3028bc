use Rattle.dbus_json_laws.proofs.KeptLines.{line_kept}
use Rattle.dbus_json_laws.proofs.laws.lines_kept.Goals as goal

pub returns : goal.returns
returns c = line_kept
