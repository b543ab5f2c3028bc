use Rattle.dbus_list.proofs.Fitting.{control_nothing}
use Rattle.dbus_list.proofs.laws.lines_control_nothing.Goals as goal

pub returns : goal.returns
returns c = control_nothing
