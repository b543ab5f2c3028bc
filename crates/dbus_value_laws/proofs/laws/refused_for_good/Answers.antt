use Rattle.dbus_value_laws.proofs.ValueItemLaws.{refused_for_good}
use Rattle.dbus_value_laws.proofs.laws.refused_for_good.Goals as goal

pub returns : goal.returns
returns c = refused_for_good
