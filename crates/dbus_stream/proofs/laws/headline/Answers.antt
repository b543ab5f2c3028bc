use Rattle.dbus_stream.proofs.HeadlineLaws.{headline}
use Rattle.dbus_stream.proofs.laws.headline.Goals as goal

pub returns : goal.returns
returns g c = headline g.row.A.Denot
