use Rattle.std.proofs.lemmas.Result.{err_from_is_err_and}
use Rattle.clap.specs.Words.{found_of, rows_of}
use Rattle.cli_options.specs.Limiting.{HasLimits, HasResync, HasWindow}
use Rattle.cli_options.specs.Named.{HasSettings, HasSide}
use Rattle.cli_options.proofs.Tells.{part_told}
use Rattle.cli_options.proofs.command_line.settings_named.Goals as goal

pub returns-in_err-limits : goal.returns-in_err-limits
returns-in_err-limits c =
    let rows = rows_of (found_of c.args.inner.now) in
    let p = err_from_is_err_and c.from_residual.result c.from_residual.ensures.1 in
    rw (p.1, p.2) (part_told (HasLimits rows) (HasSettings rows) (λ settings has. (settings.limits, has.limits)) c.in_err-limits.field-0.0 c.in_err-limits.ensures)

pub returns-in_err-handshake : goal.returns-in_err-handshake
returns-in_err-handshake c =
    let rows = rows_of (found_of c.args.inner.now) in
    let p = err_from_is_err_and c.from_residual-in_err-handshake.result c.from_residual-in_err-handshake.ensures.1 in
    rw (p.1, p.2) (part_told (HasSide rows) (HasSettings rows) (λ settings has. (settings.handshake, has.handshake)) c.in_err-handshake.field-0.0 c.in_err-handshake.ensures)

pub returns-in_err-window : goal.returns-in_err-window
returns-in_err-window c =
    let rows = rows_of (found_of c.args.inner.now) in
    let p = err_from_is_err_and c.from_residual-in_err-window.result c.from_residual-in_err-window.ensures.1 in
    rw (p.1, p.2) (part_told (HasWindow rows) (HasSettings rows) (λ settings has. (settings.window, has.window)) c.in_err-window.field-0.0 c.in_err-window.ensures)

pub returns-in_err-resync : goal.returns-in_err-resync
returns-in_err-resync c =
    let rows = rows_of (found_of c.args.inner.now) in
    let p = err_from_is_err_and c.from_residual-in_err-resync.result c.from_residual-in_err-resync.ensures.1 in
    rw (p.1, p.2) (part_told (HasResync rows) (HasSettings rows) (λ settings has. (settings.resync, has.resync)) c.in_err-resync.field-0.0 c.in_err-resync.ensures)
