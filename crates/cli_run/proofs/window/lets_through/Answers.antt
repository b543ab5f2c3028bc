use Rattle.std.proofs.Common.{◌≡◌, ℕ, Option, None, Some, refl, sym, ap, ◌∙◌, arith}
use Rattle.cli_run.proofs.OutputSteps.{skipped, let_in, kept_out}
use Rattle.cli_run.proofs.window.lets_through.Goals as goal

pub returns-then-window-gt0-clause-lets : goal.returns-then-window-gt0-clause-lets
returns-then-window-gt0-clause-lets c text = skipped c.args.window.now text (omega (arith, c.if-window-gt0.true))

pub returns-in-None-clause-lets : goal.returns-in-None-clause-lets
returns-in-None-clause-lets c text = let_in c.args.window.now text (omega (arith, c.if-window-gt0.false)) (λ full. let bad : ◌≡◌ {A = Option ℕ} None (Some 0) = sym c.in-None.is ∙ full in cc)

pub returns-in-Some-eq0-clause-lets : goal.returns-in-Some-eq0-clause-lets
returns-in-Some-eq0-clause-lets c text = kept_out c.args.window.now text (omega (arith, c.if-window-gt0.false)) (c.in-Some-eq0.is ∙ ap Some (sym c.in-Some-eq0.field-0-is ∙ c.in-Some-eq0.field-0-test))

pub returns-in-Some-clause-lets : goal.returns-in-Some-clause-lets
returns-in-Some-clause-lets c text =
    let_in c.args.window.now text (omega (arith, c.if-window-gt0.false))
    (λ full. let test = rw full at c.in-Some.left-test in absurd (test.1 refl))
