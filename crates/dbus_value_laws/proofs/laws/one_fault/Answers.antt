use Rattle.dbus_value_laws.proofs.ValueItemLaws.{one_fault}
use Rattle.dbus_value_laws.proofs.laws.one_fault.Goals as goal

pub returns : goal.returns
returns c = one_fault
