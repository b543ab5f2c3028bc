use Rattle.dbus_value_model.proofs.Numbers.{number_is_place_sum}
use Rattle.dbus_value_laws.proofs.laws.number_is_place_sum.Goals as goal

pub returns : goal.returns
returns c = number_is_place_sum
