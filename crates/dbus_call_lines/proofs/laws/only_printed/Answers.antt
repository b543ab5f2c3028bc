use Rattle.dbus_call_lines.proofs.Printed.{only_printed}
use Rattle.dbus_call_lines.proofs.laws.only_printed.Goals as goal

pub returns : goal.returns
returns c = only_printed
