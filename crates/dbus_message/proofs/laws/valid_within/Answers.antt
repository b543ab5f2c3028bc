use Rattle.dbus_message_model.proofs.Widening.{valid_within}
use Rattle.dbus_message.proofs.laws.valid_within.Goals as goal

pub returns : goal.returns
returns c = valid_within
