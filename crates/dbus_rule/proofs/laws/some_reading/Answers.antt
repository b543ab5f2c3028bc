use Rattle.dbus_rule.proofs.SomeReading.{some_reading}
use Rattle.dbus_rule.proofs.laws.some_reading.Goals as goal

pub returns : goal.returns
returns c = some_reading
