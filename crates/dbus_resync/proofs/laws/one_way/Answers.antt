use Rattle.dbus_resync.proofs.DamagedLaws.{one_way}
use Rattle.dbus_resync.proofs.laws.one_way.Goals as goal

pub returns : goal.returns
returns c = one_way
