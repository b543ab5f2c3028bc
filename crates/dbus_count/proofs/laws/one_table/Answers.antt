use Rattle.dbus_count.proofs.OneTable.{one_text}
use Rattle.dbus_count.proofs.laws.one_table.Goals as goal

pub returns : goal.returns
returns c = one_text
