use Rattle.dbus_show.proofs.FieldTexts.{then}
use Rattle.dbus_show_view.proofs.fields.write_name.Goals as goal

pub returns-in_default : goal.returns-in_default
returns-in_default g c = then g.D.Draft.gains g.met.D.Draft.joins c.push_code.ensures (then g.D.Draft.gains g.met.D.Draft.joins c.write_field_name.ensures c.push_code-2.ensures)
