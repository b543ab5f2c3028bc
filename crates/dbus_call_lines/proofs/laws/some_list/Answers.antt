use Rattle.dbus_call_lines.proofs.Some.{some_list}
use Rattle.dbus_call_lines.proofs.laws.some_list.Goals as goal

pub returns : goal.returns
returns c = some_list
