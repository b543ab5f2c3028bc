use Rattle.std.proofs.Common.{◌≡◌, ℕ, true, List, [], ◌∷◌, ◌++◌, length, inl, inr, refl, sym, ap, ◌∙◌, subst, option_map, append-nil}
use Rattle.std.proofs.lemmas.Bool.{false≢true}
use Rattle.dbus_value_model.specs.declared.order.Order.{Order}
use Rattle.dbus_message_model.specs.Messages.{MessageTree}
use Rattle.dbus_view.specs.Views.{ViewState, Views}
use Rattle.dbus_call_lines.specs.Listing.{Numbered, nth}
use Rattle.dbus_list.specs.Lines.{IsLine}
use Rattle.dbus_list.specs.Pairs.{KeepsCalls, told}
use Rattle.dbus_list.specs.Told.{Told}
use Rattle.dbus_names.specs.Kept.{state_of}
use Rattle.dbus_names.specs.NameStates.{NameState}
use Rattle.cli_run.specs.CallListing.{number_and_time}
use Rattle.cli_run.specs.LineListing.{AreLinesOfOne, LinesState, MakesLines, StandsAt, asked, lines_after, state_at}
use Rattle.cli_run.specs.LineNames.{names_after, told_beside}
use Rattle.cli_run.specs.Output.{line_place, text_if, written}
use Rattle.cli_run.specs.OutputWriting.{placed_at}
use Rattle.cli_run.specs.VisitorLaws.{after_none, written_none}
use Rattle.cli_run.specs.declared.line_listing.LineRenderer.{LineRenderer}
use Rattle.cli_run.specs.declared.place.MessagePlace.{MessagePlace}
use Rattle.cli_run.proofs.LineSteps.{some_line, some_lines_of_one}
use Rattle.cli_run.proofs.OutputSteps.{views_it}
use Rattle.cli_run.proofs.line_listing.LineRendererRenderer.take.Goals as goal

-- the text of one message, from where its lines are known
module _ (a : LineRenderer) (order : Order) (m : MessageTree) (place : MessagePlace) (size : ℕ) where
  -- how many lines there are of the message, if this is what came before it
  abbrev Lined : (before : List Numbered) → List (List ℕ) → Type 0
  Lined before lines = AreLinesOfOne (asked a) (state_of a.names) before order m place lines

  abbrev now : (before : List Numbered) → List (List ℕ) → LinesState
  now before lines = lines_after (state_at a before) (placed_at place order m size ∷ []) (length lines)

  rendered : (P : LinesState → List ℕ → Type 0) → ((before : List Numbered) → KeepsCalls before a.calls → (lines : List (List ℕ)) × Lined before lines × P (now before lines) (written a.window lines))
      → (s : LinesState) → StandsAt a s → Unit {0} → (t : LinesState) × (text : List ℕ) × MakesLines s (placed_at place order m size ∷ []) text t × P t text
  rendered P p s (before, same, keeps) _ =
      let h = p before keeps in
      subst (λ (x : LinesState). (t : LinesState) × (text : List ℕ) × MakesLines x (placed_at place order m size ∷ []) text t × P t text) (sym same)
      (now before h.0, written a.window h.0, record { lines = h.0; are = (h.0, [], h.1, refl, sym (append-nil h.0)); text_is = refl; then = refl }, h.2)

pub returns-in_default-clause-renders : goal.returns-in_default-clause-renders
returns-in_default-clause-renders g c = λ order m whole.
    rendered c.args.self.now order m c.args.lent.now.place (length c.args.lent.now.bytes.now) (λ t text. Unit {0})
    (λ before keeps. let some = some_lines_of_one (asked c.args.self.now) (state_of c.args.self.now.names) before order m c.args.lent.now.place in (some.0, some.1, tt))

pub returns-in_default-learn_names-clause-renders : goal.returns-in_default-learn_names-clause-renders
returns-in_default-learn_names-clause-renders g c = λ order m whole.
    rendered c.args.self.now order m c.args.lent.now.place (length c.args.lent.now.bytes.now) (λ t text. Unit {0})
    (λ before keeps. let some = some_lines_of_one (asked c.args.self.now) (state_of c.args.self.now.names) before order m c.args.lent.now.place in (some.0, some.1, tt))

pub returns-then-not-selected-clause-renders : goal.returns-then-not-selected-clause-renders
returns-then-not-selected-clause-renders g c = λ order m whole.
    let views = views_it c.args.lent.now.limits c.args.lent.now.bytes.now c.of_validated-view.result order m c.of_validated-view.ensures.viewed whole in
    let seen : Views c.of-message.result order m = subst (λ (v : ViewState). Views v order m) (sym c.of-message.ensures) views in
    let selects = c.selects-selected.ensures order m views in
    let was = c.args.self.now in
    let place = c.args.lent.now.place in
    let learned : state_of c.learn_names.new.names ≡ names_after (state_of was.names) m = c.in-Ok-learn_names.ensures order m seen in
    rendered was order m place (length c.args.lent.now.bytes.now) (λ t text. StandsAt (record was { names = c.learn_names.new.names; calls = c.take.new.self }) t × g.D.Draft.gains c.args.draft.now text c.args.draft.now) (λ before keeps. (
      [],
      inr (λ is. absurd (false≢true (sym c.if-not-selected.true ∙ selects.1 is)), refl),
      (
        (before ++ nth (number_and_time place) m ∷ [], λ i. record { wanted = asked was; window = after_none was.window i; names = sym learned i; before = before ++ nth (number_and_time place) m ∷ [] }, c.in-Ok.ensures.keeps order m seen before keeps),
        subst (λ (l : List ℕ). g.D.Draft.gains c.args.draft.now l c.args.draft.now) (sym (written_none was.window)) (g.met.D.Draft.nothing c.args.draft.now),
      ),
    ))

pub returns-then-not-lets_through-clause-renders : goal.returns-then-not-lets_through-clause-renders
returns-then-not-lets_through-clause-renders g c = λ order m whole.
    let views = views_it c.args.lent.now.limits c.args.lent.now.bytes.now c.of_validated-view.result order m c.of_validated-view.ensures.viewed whole in
    let seen : Views c.of-message.result order m = subst (λ (v : ViewState). Views v order m) (sym c.of-message.ensures) views in
    let selects = c.selects-selected.ensures order m views in
    let was = c.args.self.now in
    let place = c.args.lent.now.place in
    let learned : state_of c.learn_names.new.names ≡ names_after (state_of was.names) m = c.in-Ok-learn_names.ensures order m seen in
    rendered was order m place (length c.args.lent.now.bytes.now) (λ t text. StandsAt (record was { window = c.lets_through.new.window; names = c.learn_names.new.names; calls = c.take.new.self }) t × g.D.Draft.gains c.args.draft.now text c.args.draft.now) (λ before keeps.
    let some = some_line (asked was) (names_after (state_of was.names) m).names before order m place in
    let none : written was.window (some.0 ∷ []) ≡ [] = c.lets_through.ensures.lets some.0 ∙ ap (λ b. text_if b some.0) c.if-not-lets_through.true in (
      some.0 ∷ [],
      inl (selects.0 c.if-not-selected.false, some.0, some.1, refl),
      (
        (before ++ nth (number_and_time place) m ∷ [], λ i. record { wanted = asked was; window = sym c.lets_through.ensures.after i; names = sym learned i; before = before ++ nth (number_and_time place) m ∷ [] }, c.in-Ok.ensures.keeps order m seen before keeps),
        subst (λ (l : List ℕ). g.D.Draft.gains c.args.draft.now l c.args.draft.now) (sym none) (g.met.D.Draft.nothing c.args.draft.now),
      ),
    ))

pub returns-clause-renders : goal.returns-clause-renders
returns-clause-renders g c = λ order m whole.
    let views = views_it c.args.lent.now.limits c.args.lent.now.bytes.now c.of_validated-view.result order m c.of_validated-view.ensures.viewed whole in
    let seen : Views c.of-message.result order m = subst (λ (v : ViewState). Views v order m) (sym c.of-message.ensures) views in
    let selects = c.selects-selected.ensures order m views in
    let was = c.args.self.now in
    let place = c.args.lent.now.place in
    let learned : state_of c.learn_names.new.names ≡ names_after (state_of was.names) m = c.in-Ok-learn_names.ensures order m seen in
    let line = c.write_listed.ensures order m whole in
    rendered was order m place (length c.args.lent.now.bytes.now) (λ t text. StandsAt (record was { window = c.lets_through.new.window; names = c.learn_names.new.names; calls = c.take.new.self }) t × g.D.Draft.gains c.args.draft.now text c.write_listed.new.draft) (λ before keeps.
    let call = c.in-Ok.ensures.answered order m seen before keeps in
    let answered = option_map (told place.time) c.in-Ok.answered in
    let beside = c.beside-told.ensures order m views ∙ ap (λ (os : NameState). told_beside answered os.names m) learned in
    let placed = subst (λ (t : Told). IsLine was.width (line_place place) t order m line.0) beside line.1 in
    let all : written was.window (line.0 ∷ []) ≡ line.0 = c.lets_through.ensures.lets line.0 ∙ ap (λ b. text_if b line.0) c.if-not-lets_through.false in (
      line.0 ∷ [],
      inl (selects.0 c.if-not-selected.false, line.0, (answered, call, placed), refl),
      (
        (before ++ nth (number_and_time place) m ∷ [], λ i. record { wanted = asked was; window = sym c.lets_through.ensures.after i; names = sym learned i; before = before ++ nth (number_and_time place) m ∷ [] }, c.in-Ok.ensures.keeps order m seen before keeps),
        subst (λ (l : List ℕ). g.D.Draft.gains c.args.draft.now l c.write_listed.new.draft) (sym all) line.2,
      ),
    ))
