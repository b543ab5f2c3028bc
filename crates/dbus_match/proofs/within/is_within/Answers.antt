use Rattle.std.proofs.Common.{⊎_elim, inr, sym, ◌∙◌, arith}
use Rattle.std.proofs.lemmas.Bool.{false≢true}
use Rattle.std.proofs.lemmas.Bool.Decides.{Decides-eqb}
use Rattle.std.proofs.lemmas.Slice.Eq.{slice_eq-Decides}
use Rattle.dbus_match.proofs.Decided.{within_from, within_reads}
use Rattle.dbus_match.proofs.within.is_within.Goals as goal

pub returns-then-value-text : goal.returns-then-value-text
returns-then-value-text c =
    let s = c.args.separator in
    let v = c.args.value.now in
    let w = c.args.text.now in
    let d = slice_eq-Decides Decides-eqb v w c.eq.result c.eq.ensures in
    let l = c.if-value-text.true in
    (λ f. absurd (false≢true f), λ h. absurd (⊎_elim (λ e. false≢true (sym c.if-eq.false ∙ d.1 e)) (λ b. let r = (within_reads s v w b).1 in omega (arith, r, l)) h))

pub returns : goal.returns
returns c =
    let s = c.args.separator in
    let v = c.args.value.now in
    let w = c.args.text.now in
    let d = slice_eq-Decides Decides-eqb v w c.eq.result c.eq.ensures in
    (λ t. inr (within_from s v w (c.begins_with.ensures.0 t) c.if-value-text.false c.if-text-value.false), λ h. ⊎_elim (λ e. absurd (false≢true (sym c.if-eq.false ∙ d.1 e))) (λ b. c.begins_with.ensures.1 (within_reads s v w b).0) h)
