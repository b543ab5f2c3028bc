use Rattle.std.proofs.Common.{◌≡◌, List, ℕ, nat_eq, false, arith, subst}
use Rattle.dbus_show.proofs.FieldTexts.{then}
use Rattle.dbus_call_lines.specs.CallLines.{behind_commas}
use Rattle.dbus_call_members.proofs.TableTexts.{not_none, times_are}
use Rattle.dbus_call_members.proofs.table.write_times_members.Goals as goal

pub returns-then-sum-ne0 : goal.returns-then-sum-ne0
returns-then-sum-ne0 g c =
    let gains = g.D.Draft.gains in
    let joins = g.met.D.Draft.joins in
    let timed : nat_eq c.args.sum.timed 0 ≡ false = grind (arith, c.if-sum-ne0.true) in
    subst (λ (l : List (List ℕ)). gains c.args.draft.now (behind_commas l) c.write_exactly-then-sum-ne0-2.new.draft) (not_none (nat_eq c.args.sum.timed 0) _ timed)
    (subst (λ (t : List ℕ). gains c.args.draft.now t c.write_exactly-then-sum-ne0-2.new.draft) (times_are _ _ _)
    (then gains joins c.push_str.ensures (then gains joins c.write_exactly.ensures (then gains joins c.push_str-then-sum-ne0.ensures (then gains joins c.write_exactly-then-sum-ne0.ensures
    (then gains joins c.push_str-then-sum-ne0-2.ensures c.write_exactly-then-sum-ne0-2.ensures))))))
