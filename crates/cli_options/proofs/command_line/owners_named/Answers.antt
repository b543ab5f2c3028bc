use Rattle.std.proofs.Common.{◌≡◌, List, Some, None, sym, ap, ◌∙◌, option_map, codes, map, subst, unwrap_or, []}
use Rattle.clap.specs.Words.{Text, found_of, rows_of, all_of}
use Rattle.clap.proofs.WalkLemmas.{raw_values-rows}
use Rattle.cli_options.specs.Owners.{AreOwnersOf}
use Rattle.cli_options.specs.Told.{TellsOwners}
use Rattle.cli_options.proofs.command_line.owners_named.Goals as goal

pub returns-in-Some : goal.returns-in-Some
returns-in-Some c =
    let words : List Text = map (λ v. v.now) c.in-Some.words.now in
    let given : all_of (codes "owner") (rows_of (found_of c.args.inner.now)) ≡ Some words
    = sym (raw_values-rows (found_of c.args.inner.now) (codes "owner")) ∙ (sym c.get_strs.ensures ∙ ap (option_map (λ s. map (λ v. v.now) s.now)) c.in-Some.is) in
    subst (λ o. TellsOwners (unwrap_or o []) c.owners_given.result) (sym given) c.owners_given.ensures

pub returns-in-None : goal.returns-in-None
returns-in-None c =
    let given : all_of (codes "owner") (rows_of (found_of c.args.inner.now)) ≡ None
    = sym (raw_values-rows (found_of c.args.inner.now) (codes "owner")) ∙ (sym c.get_strs.ensures ∙ ap (option_map (λ s. map (λ v. v.now) s.now)) c.in-None.is) in
    subst (λ o. AreOwnersOf (unwrap_or o []) c.new.result.items) (sym given) (subst (λ owners. AreOwnersOf [] owners) (sym c.new.ensures.items) tt)
