use Rattle.std.proofs.Common.{◌≡◌, ℕ, List, Option, None, refl, sym, ap, ◌∙◌, subst}
use Rattle.dbus_calls.specs.Events.{Event, change_in, event_of, event_seen}
use Rattle.dbus_calls.specs.declared.event.Event.TheVariants as seen
use Rattle.dbus_calls.specs.OwnerChanges.{change_of}
use Rattle.dbus_view.specs.Views.{Views}
use Rattle.dbus_names.specs.Kept.{calls_of, first_of, kept_names, state_of}
use Rattle.dbus_names.specs.NameCalls.{NameCall}
use Rattle.dbus_names.specs.NameStates.{answered_by, asked_by, calls_after, named_by, names_left, owners_after, owners_left, told_by, wanted_change}
use Rattle.dbus_names.specs.declared.names.Names.{Names}
use Rattle.dbus_names.proofs.KeptSteps.{any_err, no_call, on_err, on_ok}
use Rattle.dbus_names.proofs.Naming.{named_still, same_no_more}
use Rattle.dbus_names.proofs.names.Names.take.Goals as goal

-- a call tells nothing of a name
pub returns-in-Call-clause-learns : goal.returns-in-Call-clause-learns
unfolding state_of
returns-in-Call-clause-learns g c = λ order m v.
    let wants = g.F.NameFilter.wanted c.args.filter.now in
    let first = c.args.self.now.first in
    let os = c.args.self.now.owners in
    let w = calls_of c.args.self.now in
    let step = c.take_call.ensures in
    let call : Event = event_seen (seen.Call c.in-Call.call) in
    let is : call ≡ event_of m = ap event_seen (sym c.in-Call.is) ∙ c.event-event.ensures.event order m v in
    let none : change_of m ≡ None = sym (c.event-event.ensures.change order m v) ∙ ap change_in c.in-Call.is in
    let said : None ≡ told_by wants (answered_by w (event_of m)) m = sym (ap (wanted_change wants) none) ∙ ap (λ e. told_by wants (answered_by w e) m) is in
    let asked = c.asked_by.ensures order m (subst (λ s. Views s order m) (sym c.view.ensures) v) in
    on_ok c.take_call.result (λ calls i. record {
      owners = (step.owners ∙ (λ j. owners_left (is j) (owners_after (said j) os))) i;
      calls = λ caller serial. (calls caller serial ∙ (ap (λ a. calls_after w call a caller serial) asked ∙ ap (λ e. calls_after w e (asked_by wants m) caller serial) is)) i;
      names = λ u. ((λ j. kept_names (step.names j) (step.owners j) u)
          ∙ (named_still os os u None (first_of first u) refl (same_no_more os u) ∙ (λ j. names_left (is j) (named_by (said j) (owners_after (said j) os) (kept_names first os)) u))) i;
    }) step.calls

pub returns-in-Call-clause-unchanged : goal.returns-in-Call-clause-unchanged
unfolding state_of
returns-in-Call-clause-unchanged g c =
    let step = c.take_call.ensures in
    on_err c.take_call.result (λ calls i. record {
      owners = step.owners i;
      calls = λ caller serial. calls caller serial i;
      names = λ u. kept_names (step.names i) (step.owners i) u;
    }) step.unchanged

pub returns-in_err-note_told-clause-unchanged : goal.returns-in_err-note_told-clause-unchanged
unfolding state_of
returns-in_err-note_told-clause-unchanged g c =
    let told = c.in_err-note_told.ensures in
    let now : Names = record { alloc = c.args.self.now.alloc; owners = c.note_told.new.owners; calls = c.args.self.now.calls; first = c.note_told.new.first } in
    let same : state_of now ≡ state_of c.args.self.now = λ i. record { owners = told.unchanged i; calls = calls_of c.args.self.now; names = λ u. told.unnamed u i } in
    any_err c.from_residual.result same

pub returns-clause-learns : goal.returns-clause-learns
unfolding state_of
returns-clause-learns g c = λ order m v.
    let wants = g.F.NameFilter.wanted c.args.filter.now in
    let old = c.args.self.now in
    let w = calls_of old in
    let event = c.event-event.ensures.event order m v in
    let answered = c.answered_by-answered.ensures ∙ ap (answered_by w) event in
    let told = c.in_ok-note_told.ensures in
    let closing = c.close_calls.ensures in
    let asked = asked_by wants m in
    let owners : c.note_told.new.owners ≡ owners_after (told_by wants (answered_by w (event_of m)) m) old.owners =
    told.noted order m v ∙ ap (λ (a : Option NameCall). owners_after (told_by wants a m) old.owners) answered in
    let names : (u : List ℕ) → kept_names c.note_told.new.first c.note_told.new.owners u ≡ named_by (told_by wants (answered_by w (event_of m)) m) c.note_told.new.owners (kept_names old.first old.owners) u =
    λ u. told.named order m v u ∙ ap (λ (a : Option NameCall). named_by (told_by wants a m) c.note_told.new.owners (kept_names old.first old.owners) u) answered in
    λ i. record {
      owners = (c.let_go.ensures.owners ∙ (λ j. owners_left (event j) ((closing.owners ∙ owners) j))) i;
      calls = λ caller serial. (closing.calls caller serial ∙ (no_call w c.event-event.result asked c.in_default.not-Call caller serial ∙ ap (λ (e : Event). calls_after w e asked caller serial) event)) i;
      names = λ u. (c.let_go.ensures.names u ∙ ((λ j. names_left (event j) (kept_names (closing.names j) (closing.owners j)) u)
          ∙ ((λ j. names_left (event_of m) (λ t. names t j) u) ∙ (λ j. names_left (event_of m) (named_by (told_by wants (answered_by w (event_of m)) m) (owners j) (kept_names old.first old.owners)) u)))) i;
    }
