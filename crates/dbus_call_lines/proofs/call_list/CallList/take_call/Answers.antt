use Rattle.std.proofs.Common.{ap, sym, refl, ◌∙◌}
use Rattle.dbus_calls.specs.Events.Event.{Calls}
use Rattle.dbus_call_lines.specs.Listing.{named_nth}
use Rattle.dbus_call_lines.specs.Names.{names_seen}
use Rattle.dbus_call_lines.proofs.Takes.{closes, opens}
use Rattle.dbus_call_lines.proofs.call_list.CallList.take_call.Goals as goal

pub returns-in_ok-ended-clause-takes : goal.returns-in_ok-ended-clause-takes
returns-in_ok-ended-clause-takes g c = λ order m views is form before keeps.
    let caller = c.args.call.caller.now in
    let serial = c.args.call.serial in
    opens g.S.CallSink.texts before (named_nth c.args.place (names_seen c.args.names) m) g.S.CallSink.gains g.met.S.CallSink.joins c.args.sink.now c.add_ended.new.sink c.args.self.now _ form keeps refl caller serial c.in_ok-ended.ended c.in_ok-waiting.waiting refl
    (ap (λ b. Calls caller serial b) (sym c.if-call.true) ∙ is) (c.in_ok-waiting.ensures order m views) c.in_ok-ended.ensures.opens c.in_ok-ended.ensures.before c.add_ended.ensures

pub returns-else-call-clause-takes : goal.returns-else-call-clause-takes
returns-else-call-clause-takes g c = λ order m views is form before keeps.
    let caller = c.args.call.caller.now in
    let serial = c.args.call.serial in
    closes g.S.CallSink.texts before (named_nth c.args.place (names_seen c.args.names) m) g.S.CallSink.gains g.met.S.CallSink.joins c.args.sink.now c.add_unwanted.new.sink c.args.self.now _ form keeps refl caller serial c.close-ended.result c.add_ended-else-call.new.sink refl
    (ap (λ b. Calls caller serial b) (sym c.if-call.false) ∙ is) c.close-ended.ensures.left c.close-ended.ensures.closed c.add_ended-else-call.ensures (c.add_unwanted.ensures order m views)
