use Rattle.dbus_value_laws.proofs.ValueItemLaws.{reads_spelled}
use Rattle.dbus_value_laws.proofs.laws.reads_spelled.Goals as goal

pub returns : goal.returns
returns c = reads_spelled
