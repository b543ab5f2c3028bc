use Rattle.std.proofs.Common.{◌≡◌, List, Result, Ok, Err, OnOk, rules, map, ap, ◌∙◌, subst}
use Rattle.std.specs.List.{AllByRecursion}
use Rattle.std.specs.Map.Iter.{deref_pair}
use Rattle.std.proofs.lemmas.Map.Iter.{iter_end}
use Rattle.dbus_calls.specs.Kept.{waiting}
use Rattle.dbus_call_lines.specs.Keeping.{GainsSorted, ended_rows}
use Rattle.dbus_call_lines.specs.Listing.{ListsOpen, Row}
use Rattle.dbus_call_lines.specs.Outcomes.Outcome.{Open}
use Rattle.dbus_call_lines.specs.declared.waiting_call.WaitingCall.{WaitingCall}
use Rattle.dbus_call_lines.specs.declared.wanted.Wanted.{Wanted}
use Rattle.dbus_call_lines.proofs.Finishing.{Entry, IsMap, by_form, collected_push, lists_open, maps_push, values_in}
use Rattle.dbus_call_lines.proofs.call_list.CallList.finish.Goals as goal

if_ok : {T E A B : Type 0} (r : Result T E) → OnOk r A → (A → B) → OnOk r B
if_ok (Ok x) a f = f a
if_ok (Err e) a f = tt

pub loop-calls-preserved : goal.loop-calls-preserved
loop-calls-preserved g c = record {
  collected = collected_push _ _ c.loop-calls.yielded _ c.in_ok-append_to.ensures.appended c.loop-calls.invariant.collected;
  maps = maps_push c.loop-calls.yielded _ c.loop-calls.invariant.maps (c.in_ok-append_to.ensures.ordered, c.in_ok-append_to.ensures.found);
}

pub returns-clause-lists : goal.returns-clause-lists
returns-clause-lists g c = λ wanted before keeps rising.
    let gains = g.S.CallSink.gains in
    let texts = g.S.CallSink.texts in
    let callers = c.into_callers-callers.result in
    let all : map deref_pair c.loop-calls.yielded ≡ callers.entries = search (rules, iter_end) in
    let maps = subst (λ (es : List Entry). AllByRecursion IsMap es) all c.loop-calls.invariant.maps in
    let values = c.loop-calls.invariant.collected ∙ ap values_in all in
    by_form texts wanted before c.args.self (λ (z : Wanted). OnOk c.add_sorted.result ((rows : List Row) × ListsOpen before rows × gains c.args.sink.now (ended_rows texts z rows) c.add_sorted.new.sink)) keeps (λ are.
    if_ok c.add_sorted.result c.add_sorted.ensures.adds (λ h.
    lists_open texts c.args.self.wanted before rising callers c.into_iter-calls-iterator.ensures.into_iter_gives.5 c.into_iter-calls-iterator.ensures.into_iter_gives.6 maps (waiting c.args.self.open) are c.into_callers-callers.ensures
    gains c.args.sink.now c.add_sorted.new.sink (subst (λ (l : List WaitingCall). GainsSorted gains c.args.self.wanted Open l c.args.sink.now c.add_sorted.new.sink) values h)))
