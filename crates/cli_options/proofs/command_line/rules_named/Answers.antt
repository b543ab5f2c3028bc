use Rattle.std.proofs.Common.{◌≡◌, [], ◌∷◌, List, Some, None, sym, ap, ◌∙◌, option_map, codes, map, subst, unwrap_or}
use Rattle.clap.specs.Words.{Text, found_of, rows_of, all_of}
use Rattle.clap.proofs.WalkLemmas.{raw_values-rows}
use Rattle.cli_options.specs.Told.{TellsRules}
use Rattle.cli_options.proofs.command_line.rules_named.Goals as goal

pub returns-in-Some : goal.returns-in-Some
returns-in-Some c =
    let texts : List Text = map (λ v. v.now) c.in-Some.texts.now in
    let given : all_of (codes "rule") (rows_of (found_of c.args.inner.now)) ≡ Some texts
    = sym (raw_values-rows (found_of c.args.inner.now) (codes "rule")) ∙ (sym c.get_strs.ensures ∙ ap (option_map (λ s. map (λ v. v.now) s.now)) c.in-Some.is) in
    subst (λ o. TellsRules (unwrap_or o ([] ∷ [])) c.args.explains c.rules_spelled.result) (sym given) c.rules_spelled.ensures

pub returns-in-None : goal.returns-in-None
returns-in-None c =
    let given : all_of (codes "rule") (rows_of (found_of c.args.inner.now)) ≡ None
    = sym (raw_values-rows (found_of c.args.inner.now) (codes "rule")) ∙ (sym c.get_strs.ensures ∙ ap (option_map (λ s. map (λ v. v.now) s.now)) c.in-None.is) in
    subst (λ o. TellsRules (unwrap_or o ([] ∷ [])) c.args.explains c.rules_spelled-in-None.result) (sym given) c.rules_spelled-in-None.ensures
