use Rattle.dbus_marshal.proofs.MeasureSteps.{capped_tells}
use Rattle.dbus_marshal.proofs.measure_laws.capped_tells.Goals as goal

pub returns : goal.returns
returns c = capped_tells
