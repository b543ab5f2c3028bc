use Rattle.dbus_resync.proofs.DamagedLaws.{next_is_met}
use Rattle.dbus_resync.proofs.laws.next_is_met.Goals as goal

pub returns : goal.returns
returns c = next_is_met
