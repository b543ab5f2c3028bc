use Rattle.dbus_connection.proofs.Courses.{bounded}
use Rattle.dbus_connection.proofs.laws.bounded.Goals as goal

pub returns : goal.returns
returns c = bounded
