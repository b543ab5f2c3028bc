use Rattle.dbus_connection.proofs.HandedOnce.{each_once}
use Rattle.dbus_connection.proofs.laws.each_once.Goals as goal

pub returns : goal.returns
returns g c = each_once _
