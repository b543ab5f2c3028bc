use Rattle.dbus_stream.proofs.CutLaws.{IsCut-exists}
use Rattle.dbus_stream.proofs.laws.each_cut.Goals as goal

pub returns : goal.returns
returns c = IsCut-exists
