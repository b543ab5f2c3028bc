use Rattle.std.proofs.Common.{◌≡◌, List, ℕ, [], ◌∷◌, inl, inr, length, refl, sym, ap, ◌∙◌, append-nil}
use Rattle.std.proofs.lemmas.Bool.{false≢true}
use Rattle.std.specs.Option.{option_to_list}
use Rattle.dbus_count.specs.Counting.{counting_of, names_of, with_names}
use Rattle.dbus_count.specs.Spans.{with_times}
use Rattle.cli_run.specs.ByName.{counts_at}
use Rattle.cli_run.specs.OutputWriting.{placed_at}
use Rattle.cli_run.proofs.CountSteps.{counts_one, counts_some}
use Rattle.cli_run.proofs.OutputSteps.{views_it}
use Rattle.cli_run.proofs.by_name.CountRendererRenderer.take.Goals as goal

pub returns-in_default-clause-renders : goal.returns-in_default-clause-renders
returns-in_default-clause-renders g c = λ order m whole s there _. counts_some s (placed_at c.args.lent.now.place order m (length c.args.lent.now.bytes.now))

pub returns-in_default-add-clause-renders : goal.returns-in_default-add-clause-renders
returns-in_default-add-clause-renders g c = λ order m whole s there _. counts_some s (placed_at c.args.lent.now.place order m (length c.args.lent.now.bytes.now))

pub returns-then-not-selected-clause-renders : goal.returns-then-not-selected-clause-renders
returns-then-not-selected-clause-renders g c = λ order m whole s there _.
    let was = counts_at c.args.self.now in
    let is = c.in-Ok.ensures order m whole in
    counts_one was (placed_at c.args.lent.now.place order m (length c.args.lent.now.bytes.now)) [] ([], refl, inr (λ selects. absurd (false≢true (sym c.if-not-selected.true ∙ is.selects.1 selects)), refl))
    (λ t text. (t ≡ _) × g.D.Draft.gains c.args._draft.now text c.args._draft.now)
    (λ i. record { form = was.form; selection = was.selection; owners = sym is.owners i; counts = was.counts; span = was.span }, g.met.D.Draft.nothing c.args._draft.now) s there

pub returns-clause-renders : goal.returns-clause-renders
returns-clause-renders g c = λ order m whole s there _.
    let was = counts_at c.args.self.now in
    let is = c.in-Ok.ensures order m whole in
    let views = views_it c.args.lent.now.limits c.args.lent.now.bytes.now c.of_validated-view.result order m c.of_validated-view.ensures.viewed whole in
    let size = λ (b : List ℕ) (name : List ℕ). with_names (names_of m) (length b) name (was.counts name) in
    let counted : (name : List ℕ) → counting_of c.add.new.self name ≡ size c.args.lent.now.bytes.now name = λ name. c.in-Ok-add.ensures.counted order m views name ∙ ap (λ (b : List ℕ). size b name) c.of_validated-view.ensures.viewed.1 in
    let span = c.span_after-self.ensures ∙ ap (λ l. with_times l was.span) (sym (append-nil (option_to_list c.args.lent.now.place.time))) in
    let item = placed_at c.args.lent.now.place order m (length c.args.lent.now.bytes.now) in
    counts_one was item (item ∷ []) ([], refl, inl (is.selects.0 c.if-not-selected.false, refl))
    (λ t text. (t ≡ _) × g.D.Draft.gains c.args._draft.now text c.args._draft.now)
    (λ i. record { form = was.form; selection = was.selection; owners = sym is.owners i; counts = λ name. sym (counted name) i; span = sym span i }, g.met.D.Draft.nothing c.args._draft.now) s there
