use Rattle.dbus_calls.proofs.Passes.{keeps_open}
use Rattle.dbus_calls.proofs.laws.keeps_open.Goals as goal

pub returns : goal.returns
returns g c = λ message. keeps_open message
