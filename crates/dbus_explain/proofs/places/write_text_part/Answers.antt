use Rattle.dbus_show.proofs.FieldTexts.{then}
use Rattle.dbus_explain.proofs.places.write_text_part.Goals as goal

pub returns-in-Some : goal.returns-in-Some
returns-in-Some g c =
    let gains = g.D.Draft.gains in
    let joins = g.met.D.Draft.joins in
    rw c.in-Some.is (then gains joins c.push_str.ensures (then gains joins c.write_integer.ensures (then gains joins c.push_str-in-Some.ensures c.write_integer-in-Some.ensures)))
