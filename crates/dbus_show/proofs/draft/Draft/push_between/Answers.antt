use Rattle.dbus_show.proofs.FieldTexts.{then}
use Rattle.dbus_show.proofs.draft.Draft.push_between.Goals as goal

pub returns : goal.returns
returns g c = then g.Self.Draft.gains g.met.Self.Draft.joins c.push_str.ensures (then g.Self.Draft.gains g.met.Self.Draft.joins c.push_str-2.ensures c.push_str-3.ensures)
