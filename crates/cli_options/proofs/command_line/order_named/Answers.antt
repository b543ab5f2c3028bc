use Rattle.std.proofs.Common.{◌≡◌, None, Some, option_map, sym, ap, ◌∙◌}
use Rattle.clap.specs.Words.{found_of, rows_of}
use Rattle.cli_options.specs.Worded.{order_word}
use Rattle.cli_options.proofs.Tells.{told_without_order, unnamed_told}
use Rattle.cli_options.proofs.Nothing.{unordered}
use Rattle.cli_options.proofs.command_line.order_named.Goals as goal

pub returns-in-Ok-None : goal.returns-in-Ok-None
returns-in-Ok-None c = unnamed_told _ c.usage.result c.usage.ensures
    (unordered (rows_of (found_of c.args.inner.now)) (λ order named. let bad : None ≡ Some (order_word order) = sym (c.in-Ok-None.ensures ∙ ap (option_map order_word) c.in-Ok-None.field-0-is) ∙ named in cc))

pub returns-in-Err : goal.returns-in-Err
returns-in-Err c = told_without_order (rows_of (found_of c.args.inner.now)) _ c.in-Err.ensures
