use Rattle.dbus_show.proofs.FieldTexts.{then}
use Rattle.dbus_explain.proofs.path.write_key.Goals as goal

pub returns : goal.returns
returns g c = then g.D.Draft.gains g.met.D.Draft.joins c.push_code.ensures (then g.D.Draft.gains g.met.D.Draft.joins c.write_quoted.ensures c.push_code-2.ensures)
