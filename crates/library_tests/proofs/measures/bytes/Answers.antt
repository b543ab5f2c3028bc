use Rattle.dbus_marshal.proofs.MeasureSteps.{short_bytes}
use Rattle.library_tests.proofs.measures.bytes.Goals as goal

pub returns : goal.returns
returns g = short_bytes _
