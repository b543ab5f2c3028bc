use Rattle.dbus_show.proofs.FieldTexts.{then}
use Rattle.dbus_explain.proofs.marked.write_marked_line.Goals as goal

pub returns : goal.returns
returns g c =
    let gains = g.D.Draft.gains in
    let joins = g.met.D.Draft.joins in
    then gains joins c.push_str.ensures (then gains joins c.write_escaped.ensures (then gains joins c.write_escaped-2.ensures (then gains joins c.push_str-2.ensures (then gains joins c.write_blanks_for.ensures c.push_str-3.ensures))))
