use Rattle.dbus_json_laws.proofs.KeptValues.{value_kept}
use Rattle.dbus_json_laws.proofs.laws.values_kept.Goals as goal

pub returns : goal.returns
returns c = value_kept
