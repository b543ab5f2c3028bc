use Rattle.std.proofs.Common.{None, Some, arith}
use Rattle.dbus_show.proofs.FieldTexts.{then}
use Rattle.dbus_room.specs.Counting.{Counts}
use Rattle.dbus_room.specs.CountingLaws as laws
use Rattle.dbus_explain.specs.Heads.{none}
use Rattle.dbus_explain.proofs.head.write_head.Goals as goal

pub returns-then-at-lt-TYPE_END : goal.returns-then-at-lt-TYPE_END
returns-then-at-lt-TYPE_END g c = (None, none c.if-at-lt-TYPE_END.true, laws.nothing g.D.Draft.gains g.met.D.Draft.nothing c.args.lines.now, tt)

pub returns : goal.returns
returns g c =
    let line = c.write_line.ensures in
    let all = then (Counts g.D.Draft.gains) (laws.joins g.D.Draft.gains g.met.D.Draft.joins) c.push_str.ensures line.2 in
    (Some line.0, line.1, all, (omega (arith, c.push_str.ensures.long), omega (arith, c.push_str.ensures.long, line.2.long)))
