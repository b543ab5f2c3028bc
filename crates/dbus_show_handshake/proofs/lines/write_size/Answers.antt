use Rattle.dbus_show.proofs.FieldTexts.{then}
use Rattle.dbus_show_handshake.proofs.lines.write_size.Goals as goal

pub returns : goal.returns
returns g c = then g.D.Draft.gains g.met.D.Draft.joins c.push_str.ensures (then g.D.Draft.gains g.met.D.Draft.joins c.write_integer.ensures (then g.D.Draft.gains g.met.D.Draft.joins c.push_str-2.ensures (then g.D.Draft.gains g.met.D.Draft.joins c.write_integer-2.ensures (c.push_str-3.ensures))))
