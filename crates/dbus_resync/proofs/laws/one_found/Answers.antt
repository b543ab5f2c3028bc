use Rattle.dbus_resync.proofs.OneFound.{one_found}
use Rattle.dbus_resync.proofs.laws.one_found.Goals as goal

pub returns : goal.returns
returns c = one_found
