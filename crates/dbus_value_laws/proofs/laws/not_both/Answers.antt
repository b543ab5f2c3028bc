use Rattle.dbus_value_laws.proofs.ValueItemLaws.{not_both}
use Rattle.dbus_value_laws.proofs.laws.not_both.Goals as goal

pub returns : goal.returns
returns c = not_both
