use Rattle.dbus_stream.proofs.CutLaws.{IsCut-front}
use Rattle.dbus_stream.proofs.laws.cut_of_prefix.Goals as goal

pub returns : goal.returns
returns c = IsCut-front
