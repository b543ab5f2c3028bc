use Rattle.dbus_connection.proofs.AnyCut.{any_cut}
use Rattle.dbus_connection.proofs.laws.any_cut.Goals as goal

pub returns : goal.returns
returns c = any_cut
