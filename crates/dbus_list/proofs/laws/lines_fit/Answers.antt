use Rattle.dbus_list.proofs.Fitting.{fits}
use Rattle.dbus_list.proofs.laws.lines_fit.Goals as goal

pub returns : goal.returns
returns c = fits
