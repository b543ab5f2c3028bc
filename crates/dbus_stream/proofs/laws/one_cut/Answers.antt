use Rattle.dbus_stream.proofs.CutLaws.{IsCut-one}
use Rattle.dbus_stream.proofs.laws.one_cut.Goals as goal

pub returns : goal.returns
returns c = IsCut-one
