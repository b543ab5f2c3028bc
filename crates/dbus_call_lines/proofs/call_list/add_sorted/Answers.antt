use Rattle.std.proofs.Common.{◌≡◌, List, Bor, map, take, rules, ◌∙◌, subst}
use Rattle.std.proofs.lemmas.List.{take_all}
use Rattle.std.proofs.lemmas.List.Sorted.{IsPermutation-map, answers_always}
use Rattle.dbus_call_lines.specs.Keeping.{ended_kept, kept}
use Rattle.dbus_call_lines.specs.Outcomes.{outcome_seen}
use Rattle.dbus_call_lines.specs.declared.waiting_call.WaitingCall.{WaitingCall}
use Rattle.dbus_call_lines.proofs.Steps.{all_now, kept_push, later_now, now_ranks, one_more, one_now, sorted_now}
use Rattle.dbus_call_lines.proofs.call_list.add_sorted.Goals as goal

pub returns-clause-adds : goal.returns-clause-adds
returns-clause-adds g c =
    let items = c.sort_by.new.self.items in
    let all : take c.loop-call.call-index c.deref-call-items.result.now ≡ c.deref-call-items.result.now = take_all c.loop-call.call-index c.deref-call-items.result.now c.loop-call-test.false in
    record {
      sorted = map (λ call. call.now) items;
      same = IsPermutation-map (λ call. call.now) c.args.rows.now.items items c.sort_by.ensures.permutation;
      rising = sorted_now items (c.in_ok-sort_by.ensures.sorted later_now now_ranks (answers_always _ _ _ (λ f a r g h. search rules)));
      gains_calls = subst (λ (ps : List (Bor WaitingCall)). g.S.CallSink.gains c.args.sink.now (ended_kept c.args.wanted (outcome_seen c.args.outcome) (map kept (map (λ call. call.now) ps))) c.loop-call.sink) (all ∙ c.deref-call-items.ensures.value) c.loop-call.invariant;
    }

pub loop-call-preserved : goal.loop-call-preserved
loop-call-preserved g c =
    let wanted = c.args.wanted in
    let outcome = outcome_seen c.args.outcome in
    one_more g.S.CallSink.gains g.met.S.CallSink.joins (all_now wanted outcome) (one_now wanted outcome) (kept_push wanted outcome) c.deref-call-items.result.now c.loop-call.call-index c.call-item.result c.loop-call-test.true c.call-item.is c.loop-call.invariant c.add_kept.ensures
