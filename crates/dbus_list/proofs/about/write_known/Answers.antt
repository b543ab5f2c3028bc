use Rattle.dbus_show.proofs.FieldTexts.{then}
use Rattle.dbus_list.proofs.about.write_known.Goals as goal

pub returns : goal.returns
returns g c =
    let gains = g.D.Draft.gains in
    let joins = g.met.D.Draft.joins in
    then gains joins c.push_str.ensures (then gains joins c.write_integer.ensures (then gains joins c.push_str-2.ensures (then gains joins c.push_str-3.ensures c.write_took.ensures)))
