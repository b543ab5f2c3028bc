use Rattle.std.proofs.Common.{rules, ◌≡◌, Some, codes}
use Rattle.std.proofs.lemmas.Result.{err_from_is_err_and}
use Rattle.clap.specs.Words.{found_of, rows_of, subcommand_rows_of}
use Rattle.cli_options.proofs.Tells.{told_without_selection, told_without_settings, told_without_task}
use Rattle.cli_options.proofs.command_line.command_named.Goals as goal

pub returns-in_err-settings : goal.returns-in_err-settings
returns-in_err-settings c =
    let sub : subcommand_rows_of c.args.matches.now ≡ Some (c.in-Some.name.now, rows_of (found_of c.in-Some.inner.now)) = search rules in
    let other : c.in-Some.name.now ≡ codes "handshake" → ⊥ = search rules in
    let unencoded : c.in-Some.name.now ≡ codes "encode" → ⊥ = search rules in
    let p = err_from_is_err_and c.from_residual.result c.from_residual.ensures.1 in
    rw (sub, p.1, p.2) (told_without_settings (c.in-Some.name.now, _) c.in_err-settings.field-0.0 other unencoded c.in_err-settings.ensures)

pub returns-in_err-task : goal.returns-in_err-task
returns-in_err-task c =
    let sub : subcommand_rows_of c.args.matches.now ≡ Some (c.in-Some.name.now, rows_of (found_of c.in-Some.inner.now)) = search rules in
    let other : c.in-Some.name.now ≡ codes "handshake" → ⊥ = search rules in
    let unencoded : c.in-Some.name.now ≡ codes "encode" → ⊥ = search rules in
    let p = err_from_is_err_and c.from_residual-in_err-task.result c.from_residual-in_err-task.ensures.1 in
    rw (sub, p.1, p.2) (told_without_task (c.in-Some.name.now, _) c.in_err-task.field-0.0 other unencoded c.in_err-task.ensures)

pub returns-in_err-selection : goal.returns-in_err-selection
returns-in_err-selection c =
    let sub : subcommand_rows_of c.args.matches.now ≡ Some (c.in-Some.name.now, rows_of (found_of c.in-Some.inner.now)) = search rules in
    let other : c.in-Some.name.now ≡ codes "handshake" → ⊥ = search rules in
    let unencoded : c.in-Some.name.now ≡ codes "encode" → ⊥ = search rules in
    let p = err_from_is_err_and c.from_residual-in_err-selection.result c.from_residual-in_err-selection.ensures.1 in
    rw (sub, p.1, p.2) (told_without_selection (c.in-Some.name.now, _) c.in_ok-task.task c.in_ok-settings.settings c.in_err-selection.field-0.0 other unencoded c.in_ok-task.ensures c.in_ok-settings.ensures c.in_err-selection.ensures)

pub returns : goal.returns
returns c =
    let sub : subcommand_rows_of c.args.matches.now ≡ Some (c.in-Some.name.now, rows_of (found_of c.in-Some.inner.now)) = search rules in
    rw sub (record { task = c.in_ok-task.ensures; selection = c.in_ok-selection.ensures; settings = c.in_ok-settings.ensures })
