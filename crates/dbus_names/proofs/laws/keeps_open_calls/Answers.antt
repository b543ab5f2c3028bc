use Rattle.dbus_names.proofs.OpenNames.{keeps_open_calls}
use Rattle.dbus_names.proofs.laws.keeps_open_calls.Goals as goal

pub returns : goal.returns
returns c = keeps_open_calls
