use Rattle.std.proofs.Common.{◌≡◌, [], sym, ap, ◌∙◌, subst, map, string_bytes}
use Rattle.clap.specs.Words.{App, subcommand_rows_of}
use Rattle.clap.specs.Kinds.{HasKind}
use Rattle.clap.specs.Faults.{fault_of, is_simple_and_free}
use Rattle.cli_options.specs.CommandLine.{wire_app}
use Rattle.cli_options.proofs.Tells.{wire_is_free, same_subcommand, named_of_matches, told_of_matches, told_of_error}
use Rattle.cli_options.proofs.command_line.command_of.Goals as goal

pub returns-in-Ok-try_get_matches_from-clause-named : goal.returns-in-Ok-try_get_matches_from-clause-named
returns-in-Ok-try_get_matches_from-clause-named c =
    let words = map string_bytes c.args.words.now in
    let matches = c.in-Ok-try_get_matches_from.matches in
    let same = same_subcommand _ words matches c.in-Ok.ensures c.in-Ok-try_get_matches_from.ensures.matches in
    named_of_matches words (subcommand_rows_of matches) c.command_named.result same c.command_named.ensures

pub returns-in-Ok-try_get_matches_from-clause-faults : goal.returns-in-Ok-try_get_matches_from-clause-faults
returns-in-Ok-try_get_matches_from-clause-faults c =
    let words = map string_bytes c.args.words.now in
    let matches = c.in-Ok-try_get_matches_from.matches in
    let free = ap is_simple_and_free c.in-Ok.ensures ∙ wire_is_free in
    let none : fault_of wire_app words ≡ [] = ap (λ (a : App). fault_of a words) (sym c.in-Ok.ensures) ∙ c.in-Ok-try_get_matches_from.ensures.kinds free in
    let same = same_subcommand _ words matches c.in-Ok.ensures c.in-Ok-try_get_matches_from.ensures.matches in
    told_of_matches words (subcommand_rows_of matches) c.command_named.result none same c.command_named.ensures

pub returns-in-Err-clause-faults : goal.returns-in-Err-clause-faults
returns-in-Err-clause-faults c =
    let words = map string_bytes c.args.words.now in
    let free = ap is_simple_and_free c.in-Ok.ensures ∙ wire_is_free in
    told_of_error words c.in-Err.error c.fault_told.result
    (subst (λ (a : App). HasKind (fault_of a words) c.in-Err.error) c.in-Ok.ensures (c.in-Err.ensures.kinds free)) c.fault_told.ensures
