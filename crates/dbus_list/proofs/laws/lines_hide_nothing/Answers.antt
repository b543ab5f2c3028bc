use Rattle.dbus_list.proofs.Fitting.{hide_nothing}
use Rattle.dbus_list.proofs.laws.lines_hide_nothing.Goals as goal

pub returns : goal.returns
returns c = hide_nothing
