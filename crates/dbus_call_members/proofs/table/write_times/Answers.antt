use Rattle.std.proofs.Common.{◌≡◌, List, ℕ, nat_eq, false, arith, subst}
use Rattle.dbus_show.proofs.FieldTexts.{then}
use Rattle.dbus_call_members.proofs.TableTexts.{not_none}
use Rattle.dbus_call_members.proofs.table.write_times.Goals as goal

pub returns-then-sum-ne0 : goal.returns-then-sum-ne0
returns-then-sum-ne0 g c =
    let gains = g.D.Draft.gains in
    let joins = g.met.D.Draft.joins in
    let timed : nat_eq c.args.sum.timed 0 ≡ false = grind (arith, c.if-sum-ne0.true) in
    subst (λ (t : List ℕ). gains c.args.draft.now t c.push_str-then-sum-ne0-2.new.self) (not_none (nat_eq c.args.sum.timed 0) _ timed)
    (then gains joins c.write_lasting.ensures (then gains joins c.push_str.ensures (then gains joins c.write_lasting-then-sum-ne0.ensures (then gains joins c.push_str-then-sum-ne0.ensures
    (then gains joins c.write_lasting-then-sum-ne0-2.ensures c.push_str-then-sum-ne0-2.ensures)))))
