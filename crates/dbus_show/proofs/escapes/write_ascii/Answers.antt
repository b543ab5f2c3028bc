use Rattle.dbus_show.proofs.FieldTexts.{then}
use Rattle.dbus_show.proofs.escapes.write_ascii.Goals as goal

pub returns : goal.returns
returns g c = then g.D.Draft.gains g.met.D.Draft.joins c.push_str.ensures c.write_byte.ensures
