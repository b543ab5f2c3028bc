use Rattle.std.proofs.Common.{◌≡◌, ◌∙◌, get_or, refl, sym, ap, subst, rules}
use Rattle.std.specs.Prelude.{IfOk}
use Rattle.std.proofs.lemmas.List.{drop_all, drop_more}
use Rattle.clap.specs.Words.{with_rule}
use Rattle.cli_options.specs.CommandLine.{IsLocal, rule, with_flags}
use Rattle.cli_options.specs.declared.flag.Flag.TheVariants.{Order}
use Rattle.cli_options.proofs.wire.with_flags.Goals as goal

pub loop-flag-init : goal.loop-flag-init
loop-flag-init c = λ app is. (app, is, refl)

pub loop-flag-preserved : goal.loop-flag-preserved
loop-flag-preserved c = λ app is.
    let so_far = c.loop-flag.invariant app is in
    (with_rule so_far.0 (rule (get_or c.args.flags.now c.loop-flag.flag-index Order)), c.in_ok-more.ensures so_far.0 so_far.1, ap (λ left. with_flags left so_far.0) (sym (drop_more c.args.flags.now c.loop-flag.flag-index Order (search rules))) ∙ so_far.2)

pub returns : goal.returns
returns c = λ app is.
    let all = c.loop-flag.invariant app (subst (λ r. IfOk r (IsLocal app)) c.in_ok-told.was is) in
    let none = drop_all c.loop-flag.flag-index c.args.flags.now c.loop-flag-test.false in
    subst (λ a. IsLocal a c.loop-flag.told) (ap (λ left. with_flags left all.0) (sym none) ∙ all.2) all.1
