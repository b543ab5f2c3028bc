use Rattle.std.proofs.Common.{◌≡◌, ◌↔◌, ◌||◌, Bool, true, false, not, IsTrue, List, Some, None, refl, sym, ap, ◌∙◌, option_map, codes, map}
use Rattle.std.proofs.lemmas.Bool.{false≢true}
use Rattle.clap.specs.Words.{Text, found_of, rows_of, all_of}
use Rattle.clap.proofs.WalkLemmas.{raw_values-rows}
use Rattle.cli_options.proofs.command_line.takes_all.Goals as goal

neither : (a b : Bool) {P Q : Type 0} → (a ≡ true) ↔ P → (b ≡ true) ↔ Q → IsTrue (not (a || b)) ↔ ((P → ⊥) × (Q → ⊥))
neither true b p q = (λ t. absurd (false≢true t), λ n. absurd (n.0 (p.0 refl)))
neither false true p q = (λ t. absurd (false≢true t), λ n. absurd (n.1 (q.0 refl)))
neither false false p q = (λ t. (λ x. false≢true (p.1 x), λ y. false≢true (q.1 y)), λ n. refl)

pub returns-in-Some : goal.returns-in-Some
returns-in-Some c =
    let texts : List Text = map (λ v. v.now) c.in-Some.field-0.now in
    let given : all_of (codes "rule") (rows_of (found_of c.args.inner.now)) ≡ Some texts
    = sym (raw_values-rows (found_of c.args.inner.now) (codes "rule")) ∙ (sym c.get_strs.ensures ∙ ap (option_map (λ s. map (λ v. v.now) s.now)) c.in-Some.is) in
    (λ t. absurd (false≢true t), λ all. absurd (let bad : None ≡ Some texts = sym all.0 ∙ given in cc))

pub returns-in-None : goal.returns-in-None
returns-in-None c =
    let given : all_of (codes "rule") (rows_of (found_of c.args.inner.now)) ≡ None
    = sym (raw_values-rows (found_of c.args.inner.now) (codes "rule")) ∙ (sym c.get_strs.ensures ∙ ap (option_map (λ s. map (λ v. v.now) s.now)) c.in-None.is) in
    let both = neither c.is_given.result c.is_given-in-None.result c.is_given.ensures c.is_given-in-None.ensures in
    (λ t. let n = both.0 t in (given, n.0, n.1), λ all. both.1 (all.1, all.2))
