use Rattle.dbus_list.proofs.SomeLines.{some_line_each}
use Rattle.dbus_list.proofs.laws.some_line_for_a_message.Goals as goal

pub returns : goal.returns
returns c = some_line_each
