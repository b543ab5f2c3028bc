use Rattle.dbus_call_members.proofs.OneTable.{one_table}
use Rattle.dbus_call_members.proofs.laws.one_table.Goals as goal

pub returns : goal.returns
returns c = one_table
