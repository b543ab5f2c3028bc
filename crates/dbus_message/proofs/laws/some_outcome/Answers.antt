use Rattle.dbus_header.proofs.OutcomeLaws.{some_outcome}
use Rattle.dbus_message.proofs.laws.some_outcome.Goals as goal

pub returns : goal.returns
returns c = some_outcome
