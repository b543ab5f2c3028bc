use Rattle.dbus_header.proofs.OutcomeLaws.{one_fault}
use Rattle.dbus_message.proofs.laws.one_fault.Goals as goal

pub returns : goal.returns
returns c = one_fault
