use Rattle.dbus_show.proofs.FieldTexts.{then}
use Rattle.dbus_json.proofs.header.write_header_front.Goals as goal

pub returns : goal.returns
returns g c = then g.D.Draft.gains g.met.D.Draft.joins c.push_code.ensures (then g.D.Draft.gains g.met.D.Draft.joins c.write_front.ensures c.push_code-2.ensures)
