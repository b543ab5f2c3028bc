use Rattle.dbus_message_model.proofs.Widening.{wider_limits}
use Rattle.dbus_message.proofs.laws.wider_limits.Goals as goal

pub returns : goal.returns
returns c = wider_limits
