use Rattle.dbus_connection.proofs.Courses.{takes_messages}
use Rattle.dbus_connection.proofs.laws.takes_messages.Goals as goal

pub returns : goal.returns
returns c = takes_messages
