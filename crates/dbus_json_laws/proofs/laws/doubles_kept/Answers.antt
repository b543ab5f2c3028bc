use Rattle.dbus_json_laws.proofs.OneValue.{double_kept}
use Rattle.dbus_json_laws.proofs.laws.doubles_kept.Goals as goal

pub returns : goal.returns
returns c = double_kept
