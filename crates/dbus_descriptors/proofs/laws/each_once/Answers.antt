use Rattle.dbus_descriptors.proofs.Shares.{each_once}
use Rattle.dbus_descriptors.proofs.laws.each_once.Goals as goal

pub returns : goal.returns
returns g c = each_once _
