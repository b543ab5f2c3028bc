use Rattle.std.proofs.Common.{refl, option_map, subst}
use Rattle.dbus_call_lines.specs.Keeping.{ended_if, kept}
use Rattle.dbus_call_lines.specs.Listing.{named_nth}
use Rattle.dbus_call_lines.specs.Outcomes.{Outcome}
use Rattle.dbus_call_lines.proofs.Takes.{answers_none, answers_some}
use Rattle.dbus_call_lines.proofs.call_list.CallList.take_reply.Goals as goal

pub returns-in-Some : goal.returns-in-Some
returns-in-Some g c = λ order m views is names wanted before keeps.
    answers_some g.S.CallSink.texts before (named_nth c.args.place names m) g.S.CallSink.gains g.met.S.CallSink.joins c.args.sink.now c.add_kept.new.sink c.args.self.now _ wanted keeps refl
    c.args.reply.caller.now c.args.reply.serial c.answer-ended.result (option_map (λ s. s.now) c.args.reply.sender) c.in-Some.call c.in-Some.is refl is c.answer-ended.ensures.left c.answer-ended.ensures.answers
    (subst (λ (y : Outcome). g.S.CallSink.gains c.args.sink.now (ended_if c.args.self.now.wanted y (kept c.in-Some.call).place (kept c.in-Some.call).text) c.add_kept.new.sink) (c.outcome_of.ensures order m views) c.add_kept.ensures)

pub returns : goal.returns
returns g c = λ order m views is names wanted before keeps.
    answers_none g.S.CallSink.texts before (named_nth c.args.place names m) g.S.CallSink.gains g.met.S.CallSink.joins c.args.sink.now c.args.sink.now c.args.self.now _ wanted keeps refl
    c.args.reply.caller.now c.args.reply.serial c.answer-ended.result (option_map (λ s. s.now) c.args.reply.sender) c.in-None.is c.saturating_add-self.ensures is c.answer-ended.ensures.left c.answer-ended.ensures.answers (g.met.S.CallSink.nothing c.args.sink.now)
