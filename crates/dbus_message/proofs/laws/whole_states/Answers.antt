use Rattle.dbus_header.proofs.StatedLengths.{whole_states}
use Rattle.dbus_message.proofs.laws.whole_states.Goals as goal

pub returns : goal.returns
returns c = whole_states
