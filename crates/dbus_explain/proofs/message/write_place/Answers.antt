use Rattle.std.proofs.Common.{arith}
use Rattle.dbus_show.proofs.FieldTexts.{then}
use Rattle.dbus_room.specs.Counting.{Counts}
use Rattle.dbus_room.specs.CountingLaws as laws
use Rattle.dbus_explain.proofs.message.write_place.Goals as goal

pub returns : goal.returns
returns g c =
    let gains = Counts g.D.Draft.gains in
    let joins = laws.joins g.D.Draft.gains g.met.D.Draft.joins in
    let front = then gains joins c.push_str.ensures (then gains joins c.write_integer.ensures (then gains joins c.push_str-2.ensures (then gains joins c.write_integer-2.ensures (then gains joins c.push_str-3.ensures (then gains joins c.write_integer-3.ensures c.push_str-4.ensures))))) in (
      c.write_name-text.ensures.0,
      c.write_name-text.ensures.1,
      then gains joins c.push_str.ensures (then gains joins c.write_integer.ensures (then gains joins c.push_str-2.ensures (then gains joins c.write_integer-2.ensures (then gains joins c.push_str-3.ensures (then gains joins c.write_integer-3.ensures (then gains joins c.push_str-4.ensures (then gains joins c.write_name-text.ensures.2 c.write_text_part.ensures))))))),
      front.long,
      omega (arith, front.long, c.write_name-text.ensures.2.long),
    )
