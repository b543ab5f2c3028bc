use Rattle.std.proofs.Common.{ℕ, List, subst}
use Rattle.dbus_show.proofs.FieldTexts.{then}
use Rattle.dbus_json.proofs.OneLines.{before_rest, last_members}
use Rattle.dbus_json.proofs.line.write_start.Goals as goal

pub returns : goal.returns
returns g c =
    let j = c.args.validated.now in
    let rest = then g.D.Draft.gains g.met.D.Draft.joins c.push_str-3.ensures (then g.D.Draft.gains g.met.D.Draft.joins c.write_integer-3.ensures (then g.D.Draft.gains g.met.D.Draft.joins c.push_code.ensures c.write_head.ensures)) in
    let time = subst (λ (s : List ℕ). g.D.Draft.gains c.write_integer-2.new.draft s c.write_head.new.draft) (before_rest c.args.place.time (last_members j.order j.length j.kind j.flags j.serial)) (then g.D.Draft.gains g.met.D.Draft.joins c.write_time.ensures rest) in
    then g.D.Draft.gains g.met.D.Draft.joins c.push_str.ensures (then g.D.Draft.gains g.met.D.Draft.joins c.write_integer.ensures (then g.D.Draft.gains g.met.D.Draft.joins c.push_str-2.ensures (then g.D.Draft.gains g.met.D.Draft.joins c.write_integer-2.ensures time)))
