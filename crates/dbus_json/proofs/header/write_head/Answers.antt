use Rattle.std.proofs.Common.{append-nil, decimal, sym, subst}
use Rattle.dbus_show.proofs.FieldTexts.{then}
use Rattle.dbus_json.proofs.OneLines.{head_is}
use Rattle.dbus_json.proofs.header.write_head.Goals as goal

pub returns : goal.returns
returns g c =
    let gains = g.D.Draft.gains in
    let joins = g.met.D.Draft.joins in
    let serial = subst (λ s. gains c.push_str-2.new.self s c.write_integer-2.new.draft) (sym (append-nil (decimal c.args.serial))) c.write_integer-2.ensures in
    subst (λ s. gains c.args.draft.now s c.write_integer-2.new.draft) (head_is c.args.order c.args.kind c.args.flags c.args.serial)
    (then gains joins c.write_front.ensures (then gains joins c.push_str.ensures (then gains joins c.write_integer.ensures (then gains joins c.push_str-2.ensures serial))))
