use Rattle.dbus_descriptors.proofs.Shares.{one_sharing}
use Rattle.dbus_descriptors.proofs.laws.one_sharing.Goals as goal

pub returns : goal.returns
returns g c = one_sharing _
