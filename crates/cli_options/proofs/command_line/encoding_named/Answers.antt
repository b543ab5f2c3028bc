use Rattle.std.proofs.lemmas.Result.{err_from_is_err_and}
use Rattle.clap.specs.Words.{found_of, rows_of}
use Rattle.cli_options.specs.Limiting.{HasLimits}
use Rattle.cli_options.specs.Named.{HasEncoding, HasOrder}
use Rattle.cli_options.proofs.Tells.{part_told, unnamed_told}
use Rattle.cli_options.proofs.command_line.encoding_named.Goals as goal

pub returns-in_err-limits : goal.returns-in_err-limits
returns-in_err-limits c =
    let rows = rows_of (found_of c.args.inner.now) in
    let p = err_from_is_err_and c.from_residual.result c.from_residual.ensures.1 in
    rw (p.1, p.2) (part_told (HasLimits rows) (HasEncoding rows) (λ wanted has. (wanted.limits, has.limits)) c.in_err-limits.field-0.0 c.in_err-limits.ensures)

pub returns-in_err-order : goal.returns-in_err-order
returns-in_err-order c =
    let rows = rows_of (found_of c.args.inner.now) in
    let p = err_from_is_err_and c.from_residual-in_err-order.result c.from_residual-in_err-order.ensures.1 in
    rw (p.1, p.2) (part_told (HasOrder rows) (HasEncoding rows) (λ wanted has. (wanted.order, has.order)) c.in_err-order.field-0.0 c.in_err-order.ensures)

pub returns-in-None : goal.returns-in-None
returns-in-None c = unnamed_told _ c.usage.result c.usage.ensures (λ wanted has. c.in-None.ensures wanted.max_line has.max_line)
