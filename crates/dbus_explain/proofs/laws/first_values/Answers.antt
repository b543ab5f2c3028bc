use Rattle.dbus_explain.proofs.FirstValues.{first_values}
use Rattle.dbus_explain.proofs.laws.first_values.Goals as goal

pub returns : goal.returns
returns c = first_values
