use Rattle.dbus_show.proofs.FieldTexts.{then}
use Rattle.dbus_count.proofs.span.write_words.Goals as goal

pub returns : goal.returns
returns g c =
    let gains = g.D.Draft.gains in
    let joins = g.met.D.Draft.joins in
    let seconds = rw c.duration.ensures at c.write_seconds.ensures in
    let rate = rw c.rate.ensures at c.write_rate.ensures in
    then gains joins c.write_integer.ensures (then gains joins c.push_str.ensures (then gains joins seconds (then gains joins c.push_str-2.ensures (then gains joins rate c.push_str-3.ensures))))
