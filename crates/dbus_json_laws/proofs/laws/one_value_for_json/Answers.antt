use Rattle.dbus_json_laws.proofs.OneValue.{one_each}
use Rattle.dbus_json_laws.proofs.laws.one_value_for_json.Goals as goal

pub returns : goal.returns
returns c = one_each
