use Rattle.dbus_header.proofs.OutcomeLaws.{one_outcome}
use Rattle.dbus_message.proofs.laws.one_outcome.Goals as goal

pub returns : goal.returns
returns c = one_outcome
