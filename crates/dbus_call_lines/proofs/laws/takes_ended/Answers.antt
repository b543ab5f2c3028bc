use Rattle.dbus_call_lines.proofs.Taken.{takes_ended}
use Rattle.dbus_call_lines.proofs.laws.takes_ended.Goals as goal

pub returns : goal.returns
returns c = takes_ended
