use Rattle.dbus_address.proofs.FirstFlaw.{one_fault}
use Rattle.dbus_address.proofs.laws.one_fault.Goals as goal

pub returns : goal.returns
returns c = one_fault
