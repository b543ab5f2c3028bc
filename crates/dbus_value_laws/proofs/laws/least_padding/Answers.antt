use Rattle.dbus_value_model.proofs.Numbers.{least_padding}
use Rattle.dbus_value_laws.proofs.laws.least_padding.Goals as goal

pub returns : goal.returns
returns c = least_padding
