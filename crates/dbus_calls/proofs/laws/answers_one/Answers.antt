use Rattle.dbus_calls.proofs.Passes.{answers_one}
use Rattle.dbus_calls.proofs.laws.answers_one.Goals as goal

pub returns : goal.returns
returns g c = λ message. answers_one message
