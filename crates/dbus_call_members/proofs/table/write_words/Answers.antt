use Rattle.dbus_show.proofs.FieldTexts.{then}
use Rattle.dbus_call_members.proofs.table.write_words.Goals as goal

pub returns : goal.returns
returns g c =
    let gains = g.D.Draft.gains in
    let joins = g.met.D.Draft.joins in
    then gains joins c.write_integer.ensures (then gains joins c.push_str.ensures (then gains joins c.write_integer-2.ensures (then gains joins c.push_str-2.ensures (then gains joins c.write_integer-3.ensures
    (then gains joins c.push_str-3.ensures (then gains joins c.write_integer-4.ensures (then gains joins c.push_str-4.ensures (then gains joins c.write_times.ensures (then gains joins c.push_str-5.ensures c.push_str-6.ensures)))))))))
