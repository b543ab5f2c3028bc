use Rattle.std.proofs.Common.{ap, sym, ◌∙◌}
use Rattle.dbus_calls.specs.Events.Event.{Calls}
use Rattle.dbus_call_lines.specs.Listing.{nth}
use Rattle.dbus_list.proofs.Paired.{closes, opens}
use Rattle.dbus_list.proofs.call_table.CallTable.take_call.Goals as goal

pub returns-in_ok-open : goal.returns-in_ok-open
returns-in_ok-open c = λ order m views is before keeps.
    let caller = c.args.call.caller.now in
    let serial = c.args.call.serial in
    opens before (nth c.args.place m) c.args.self.now _ keeps caller serial c.in_ok-waiting.waiting (ap (λ b. Calls caller serial b) (sym c.if-call.true) ∙ is)
    (c.in_ok-waiting.ensures order m views) c.in_ok-open.ensures.opens

pub returns-else-call : goal.returns-else-call
returns-else-call c = λ order m views is before keeps.
    let caller = c.args.call.caller.now in
    let serial = c.args.call.serial in
    closes before (nth c.args.place m) c.args.self.now _ keeps caller serial (ap (λ b. Calls caller serial b) (sym c.if-call.false) ∙ is) c.close.ensures.left
