use Rattle.std.proofs.Common.{ap, sym, refl, subst, Result, Ok, Err, OnOk, None, ◌∙◌, []}
use Rattle.dbus_view.specs.Views.{ViewState, Views}
use Rattle.dbus_calls.specs.Events.{event_seen}
use Rattle.dbus_call_lines.proofs.Leaving.{leaves_some}
use Rattle.dbus_call_lines.specs.Listing.{named_nth}
use Rattle.dbus_call_lines.specs.Names.{names_seen}
use Rattle.dbus_call_lines.proofs.Takes.{leaves_none, passes}
use Rattle.dbus_call_lines.proofs.call_list.CallList.take.Goals as goal

pub returns-in-Reply-clause-takes : goal.returns-in-Reply-clause-takes
returns-in-Reply-clause-takes g c = λ order m views form before keeps rising.
    c.take_reply.ensures order m (subst (λ (v : ViewState). Views v order m) (sym c.view-in-Reply.ensures) views) (ap event_seen (sym c.in-Reply.is) ∙ c.event.ensures.event order m views) (names_seen c.args.names) form before keeps

pub returns-in-None-clause-takes : goal.returns-in-None-clause-takes
returns-in-None-clause-takes g c = λ order m views form before keeps rising.
    leaves_none g.S.CallSink.texts before (named_nth c.args.place (names_seen c.args.names) m) g.S.CallSink.gains g.met.S.CallSink.joins c.args.sink.now c.args.sink.now c.args.self.now _ form keeps refl c.in-Departure.name.now 0 None refl
    (ap event_seen (sym c.in-Departure.is) ∙ c.event.ensures.event order m views) c.close_all.ensures.left c.in-None.ensures.closed (g.met.S.CallSink.nothing c.args.sink.now)

pub returns-in-Other-clause-takes : goal.returns-in-Other-clause-takes
returns-in-Other-clause-takes g c = λ order m views form before keeps rising.
    passes g.S.CallSink.texts before (named_nth c.args.place (names_seen c.args.names) m) g.S.CallSink.gains g.met.S.CallSink.joins c.args.sink.now c.args.sink.now c.args.self.now c.args.self.now form keeps refl [] 0 None refl
    (ap event_seen (sym c.in-Other.is) ∙ c.event.ensures.event order m views) refl (g.met.S.CallSink.nothing c.args.sink.now)

if_all : {T E A B C D : Type 0} (r : Result T E) → OnOk r A → OnOk r B → OnOk r C → (A → B → C → D) → OnOk r D
if_all (Ok x) a b c f = f a b c
if_all (Err e) a b c f = tt

pub returns-in-Some-clause-takes : goal.returns-in-Some-clause-takes
returns-in-Some-clause-takes g c = λ order m views form before keeps rising.
    let is = ap event_seen (sym c.in-Departure.is) ∙ c.event.ensures.event order m views in
    if_all c.add_all.result c.add_all.ensures.ordered c.add_all.ensures.found c.add_all.ensures.adds
    (λ ordered found writes. leaves_some g.S.CallSink.texts before (named_nth c.args.place (names_seen c.args.names) m) g.S.CallSink.gains g.met.S.CallSink.joins c.args.sink.now c.add_all.new.sink c.args.self.now _ form keeps refl refl
    c.in-Departure.name.now is c.close_all.ensures.left rising c.in-Some.calls ordered found c.in-Some.ensures.closed writes)
