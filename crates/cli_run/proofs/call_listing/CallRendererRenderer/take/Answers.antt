use Rattle.std.proofs.Common.{◌≡◌, ◌||◌, is_some, [], ◌∷◌, ◌++◌, length, rules, sym, ap, ◌∙◌, subst}
use Rattle.std.proofs.Math.Path.{transport}
use Rattle.dbus_view.specs.Views.{ViewState, Views}
use Rattle.dbus_call_lines.specs.CallLines.{front}
use Rattle.dbus_call_lines.specs.Keeping.{Keeps}
use Rattle.dbus_call_lines.specs.Listing.{AreRising, ListsAfter, Numbered, named_nth}
use Rattle.dbus_call_lines.specs.Names.{Known}
use Rattle.dbus_call_lines.proofs.Written.{are_lines}
use Rattle.dbus_names.specs.Kept.{state_of}
use Rattle.dbus_names.specs.NameStates.{NameState}
use Rattle.cli_run.specs.CallLaws.{or_false}
use Rattle.cli_run.specs.CallListing.{ListsAt, number_and_time}
use Rattle.cli_run.specs.LineNames.{known_beside, names_after}
use Rattle.cli_run.proofs.CallSteps.{lists_one, some_of_one}
use Rattle.cli_run.proofs.OutputSteps.{views_it}
use Rattle.cli_run.proofs.call_listing.CallRendererRenderer.take.Goals as goal

pub returns-in_default-clause-renders : goal.returns-in_default-clause-renders
returns-in_default-clause-renders g c = λ order m whole s there up. some_of_one s order m c.args.lent.now.place (length c.args.lent.now.bytes.now) up

pub returns-in_default-take-clause-renders : goal.returns-in_default-take-clause-renders
returns-in_default-take-clause-renders g c = λ order m whole s there up. some_of_one s order m c.args.lent.now.place (length c.args.lent.now.bytes.now) up

pub returns-clause-renders : goal.returns-clause-renders
returns-clause-renders g c = λ order m whole s there up.
    let views = views_it c.args.lent.now.limits c.args.lent.now.bytes.now c.of_validated-view.result order m c.of_validated-view.ensures.viewed whole in
    let seen : Views c.of-message.result order m = subst (λ (v : ViewState). Views v order m) (sym c.of-message.ensures) views in
    let place = c.args.lent.now.place in
    let learned : state_of c.learn_names.new.names ≡ names_after s.names m = c.in-Ok.ensures order m seen ∙ ap (λ (os : NameState). names_after os m) (sym there.names_are) in
    let same = c.known_names-known.ensures order m views ∙ ap (λ (os : NameState). known_beside os.names m) learned in
    let at : Known → Numbered = λ k. named_nth (number_and_time place) k m in
    let h = c.in-Ok-take.ensures.takes order m seen s.wanted s.before there.keeps (subst (λ (k : Known). AreRising (s.before ++ at k ∷ [])) (sym same) up) in
    let goes = h.3.1 in
    let lent = h.3.0 in
    let back : c.take.new.sink.draft.draft.now ≡ c.draft-1.given.0 = search rules in
    lists_one s order m place (length c.args.lent.now.bytes.now) (λ t text. ListsAt _ t × g.D.Draft.gains c.args.draft.now text c.draft-1.given.0) h.1 (subst (λ (k : Known). ListsAfter s.before (at k) h.1) same h.2) (
      record {
        wanted_is = there.wanted_is;
        names_are = sym learned;
        timed_is = (λ i. there.timed_is i || sym (c.is_some.ensures ∙ or_false (is_some c.args.lent.now.place.time)) i);
        keeps = subst (λ (k : Known). Keeps front s.wanted (s.before ++ at k ∷ []) c.take.new.self) same h.0;
        rising = up;
      },
      transport (λ i. g.D.Draft.gains c.args.draft.now (are_lines s.wanted h.1 i) (back i)) goes,
    )
