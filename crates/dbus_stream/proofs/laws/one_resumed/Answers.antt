use Rattle.dbus_stream.proofs.AheadSteps.{one_resumed}
use Rattle.dbus_stream.proofs.laws.one_resumed.Goals as goal

pub returns : goal.returns
returns c = one_resumed
