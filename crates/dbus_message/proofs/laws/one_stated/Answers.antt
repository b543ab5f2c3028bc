use Rattle.dbus_header.proofs.StatedLengths.{one_stated}
use Rattle.dbus_message.proofs.laws.one_stated.Goals as goal

pub returns : goal.returns
returns c = one_stated
