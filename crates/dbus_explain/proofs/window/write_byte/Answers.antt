use Rattle.dbus_show.proofs.FieldTexts.{then}
use Rattle.dbus_explain.proofs.window.write_byte.Goals as goal

pub returns : goal.returns
returns g c = then g.D.Draft.gains g.met.D.Draft.joins c.push_code.ensures (c.write_hex.ensures)
