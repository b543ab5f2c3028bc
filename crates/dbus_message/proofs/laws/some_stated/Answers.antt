use Rattle.dbus_header.proofs.StatedLengths.{some_stated}
use Rattle.dbus_message.proofs.laws.some_stated.Goals as goal

pub returns : goal.returns
returns c = some_stated
