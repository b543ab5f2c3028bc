use Rattle.std.proofs.Common.{◌≡◌, ◌↔◌, ◌&&◌, ℕ, Bool, IsTrue, true, false, not, Option, List, [], ◌∷◌, ◌++◌, length, Result, Ok, Err, OnOk, inl, inr, refl, sym, ap, ◌∙◌, subst, append-nil}
use Rattle.std.proofs.lemmas.Bool.{false≢true}
use Rattle.dbus_value_model.specs.declared.order.Order.{Order}
use Rattle.dbus_message_model.specs.Messages.{MessageTree}
use Rattle.dbus_names.specs.NameStates.{NameState}
use Rattle.cli_options.specs.declared.command.Output.{Output}
use Rattle.cli_options.specs.declared.command.Output.TheVariants.{Nothing}
use Rattle.cli_options.specs.declared.file_form.FileForm.{FileForm}
use Rattle.cli_options.specs.declared.selection.Selection.{Selection}
use Rattle.cli_run.specs.Handing.{front_of}
use Rattle.cli_run.specs.Learning.{Selects}
use Rattle.cli_run.specs.Output.{IsOutputOf, PicksBy, begins_file, form_of, header_if, is_check, text_if, written}
use Rattle.cli_run.specs.OutputWriting.{placed_at}
use Rattle.cli_run.specs.Rendering.{Makes, OutputState, state_after, state_of}
use Rattle.cli_run.specs.declared.framing.Front.{Front}
use Rattle.cli_run.specs.declared.place.MessagePlace.{MessagePlace}
use Rattle.cli_run.specs.VisitorLaws.{after_none, written_none}
use Rattle.cli_run.proofs.Outputs.{some_of_one, some_text}
use Rattle.cli_run.proofs.output.OutputRendererRenderer.take.Goals as goal

-- the text of one message, from where these texts of it are known
module _ (s : OutputState) (order : Order) (m : MessageTree) (place : MessagePlace) (size : ℕ) (texts : List (List ℕ)) (made : IsOutputOf s.command s.owners order m place texts) where
  abbrev text : List ℕ
  text = header_if (begins_file (form_of s.command.output) place s.begun) ++ written s.window texts

  abbrev now : OutputState
  now = state_after s (placed_at place order m size ∷ []) (length texts)

  makes_one : Makes s (placed_at place order m size ∷ []) text now
  makes_one = record { texts = texts; made = (texts, [], sym (append-nil texts), made, refl); text_is = refl; then = refl }

  rendered : (P : OutputState → List ℕ → Type 0) → P now text → (other : OutputState) → other ≡ s → (t : OutputState) × (text : List ℕ) × Makes other (placed_at place order m size ∷ []) text t × P t text
  rendered P p other same = subst (λ (x : OutputState). (t : OutputState) × (text : List ℕ) × Makes x (placed_at place order m size ∷ []) text t × P t text) (sym same) (now, text, makes_one, p)

on_ok : {E P : Type 0} (Q : Type 0) (result : Result (Unit {0}) E) → P → OnOk result Q → OnOk result (P × Q)
on_ok Q (Ok x) p q = (p, q)
on_ok Q (Err e) p q = tt

-- a message that is selected is picked, but by `check`
met_by : (output : Output) (b : Bool) → b ≡ is_check output → (selection : Option Selection) (os : NameState) (m : MessageTree) (selected : Bool) → IsTrue selected ↔ Selects selection os m → IsTrue (selected && not b) ↔ PicksBy output selection os m
met_by output b is selection os m selected s = subst (λ (x : Bool). IsTrue (selected && not x) ↔ PicksBy output selection os m) (sym is) (by output selected s)
  where
    by : (output : Output) (selected : Bool) → IsTrue selected ↔ Selects selection os m → IsTrue (selected && not (is_check output)) ↔ PicksBy output selection os m
    by Nothing true s = (λ t. absurd (false≢true t), λ p. absurd p)
    by Nothing false s = (λ t. absurd (false≢true t), λ p. absurd p)
    by output true s = (λ t. s.0 refl, λ p. refl)
    by output false s = (λ t. absurd (false≢true t), λ p. absurd (false≢true (s.1 p)))

-- the header that is due, and nothing after it
due : (front : Front) (form own : FileForm) (place : MessagePlace) (begun : Bool) (texts : List ℕ) → front ≡ front_of form place begun → form ≡ own → texts ≡ []
    → header_if front.begins_file ≡ header_if (begins_file own place begun) ++ texts
due front form own place begun texts e f none =
    ap (λ (x : Front). header_if x.begins_file) e ∙ (ap (λ (x : FileForm). header_if (begins_file x place begun)) f
    ∙ (sym (append-nil (header_if (begins_file own place begun))) ∙ ap (λ l. header_if (begins_file own place begun) ++ l) (sym none)))

pub returns-in_default-clause-renders : goal.returns-in_default-clause-renders
returns-in_default-clause-renders g c = λ order m whole s there _.
    let was = state_of c.args.self.now in
    let some = some_of_one was.command was.owners order m c.args.lent.now.place in
    rendered was order m c.args.lent.now.place (length c.args.lent.now.bytes.now) some.0 some.1 (λ t text. Unit {0}) tt s there

pub returns-then-not-picked-clause-renders : goal.returns-then-not-picked-clause-renders
returns-then-not-picked-clause-renders g c = λ order m whole s there _.
    let was = state_of c.args.self.now in
    let place = c.args.lent.now.place in
    let is = c.in-Ok.ensures order m whole in
    let met = met_by was.command.output c.is_check.result c.is_check.ensures was.command.selection was.owners m c.in-Ok.selected is.selects in
    let header = due c.of-front.result c.form_of.result (form_of was.command.output) place was.begun (written was.window []) c.of-front.ensures c.form_of.ensures (written_none was.window) in
    rendered was order m place (length c.args.lent.now.bytes.now) [] (inr (λ picks. absurd (false≢true (sym c.if-not-picked.true ∙ met.1 picks)), refl))
    (λ t text. (t ≡ _) × g.D.Draft.gains c.args.draft.now text c.write_file_header.new.draft)
    (λ i. record { command = was.command; window = after_none was.window i; begun = true; owners = sym is.owners i }, subst (λ (l : List ℕ). g.D.Draft.gains c.args.draft.now l c.write_file_header.new.draft) header c.write_file_header.ensures) s there

pub returns-then-lets_through-clause-renders : goal.returns-then-lets_through-clause-renders
returns-then-lets_through-clause-renders g c = λ order m whole s there _.
    let was = state_of c.args.self.now in
    let place = c.args.lent.now.place in
    let is = c.in-Ok.ensures order m whole in
    let met = met_by was.command.output c.is_check.result c.is_check.ensures was.command.selection was.owners m c.in-Ok.selected is.selects in
    let one = c.write_one.ensures.writes order m whole in
    let header = header_if (begins_file (form_of was.command.output) place was.begun) in
    let all : written was.window (one.0 ∷ []) ≡ one.0 = c.lets_through.ensures.lets one.0 ∙ ap (λ b. text_if b one.0) c.if-lets_through.true in
    rendered was order m place (length c.args.lent.now.bytes.now) (one.0 ∷ []) (inl (met.0 c.if-not-picked.false, one.0, one.1, refl))
    (λ t text. OnOk c.write_one.result ((t ≡ _) × g.D.Draft.gains c.args.draft.now text c.write_one.new.draft))
    (on_ok (g.D.Draft.gains c.args.draft.now (header ++ written was.window (one.0 ∷ [])) c.write_one.new.draft) c.write_one.result (λ i. record { command = was.command; window = sym c.lets_through.ensures.after i; begun = true; owners = sym is.owners i })
    (subst (λ (l : List ℕ). OnOk c.write_one.result (g.D.Draft.gains c.args.draft.now (header ++ l) c.write_one.new.draft)) (sym all) one.2)) s there

pub returns-else-lets_through-clause-renders : goal.returns-else-lets_through-clause-renders
returns-else-lets_through-clause-renders g c = λ order m whole s there _.
    let was = state_of c.args.self.now in
    let place = c.args.lent.now.place in
    let is = c.in-Ok.ensures order m whole in
    let met = met_by was.command.output c.is_check.result c.is_check.ensures was.command.selection was.owners m c.in-Ok.selected is.selects in
    let some = some_text was.command.output order m place in
    let none : written was.window (some.0 ∷ []) ≡ [] = c.lets_through.ensures.lets some.0 ∙ ap (λ b. text_if b some.0) c.if-lets_through.false in
    let header = due c.of-front.result c.form_of.result (form_of was.command.output) place was.begun (written was.window (some.0 ∷ [])) c.of-front.ensures c.form_of.ensures none in
    rendered was order m place (length c.args.lent.now.bytes.now) (some.0 ∷ []) (inl (met.0 c.if-not-picked.false, some.0, some.1, refl))
    (λ t text. (t ≡ _) × g.D.Draft.gains c.args.draft.now text c.write_file_header-else-lets_through.new.draft)
    (λ i. record { command = was.command; window = sym c.lets_through.ensures.after i; begun = true; owners = sym is.owners i }, subst (λ (l : List ℕ). g.D.Draft.gains c.args.draft.now l c.write_file_header-else-lets_through.new.draft) header c.write_file_header-else-lets_through.ensures) s there
