use Rattle.dbus_types.proofs.PrefixSteps.{text_same}
use Rattle.dbus_types.proofs.laws.no_type_begins_another.Goals as goal

pub returns : goal.returns
returns c = text_same
