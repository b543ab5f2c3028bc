use Rattle.dbus_names.proofs.WantedNames.{knows_wanted}
use Rattle.dbus_names.proofs.laws.knows_wanted_names.Goals as goal

pub returns : goal.returns
returns c = knows_wanted
