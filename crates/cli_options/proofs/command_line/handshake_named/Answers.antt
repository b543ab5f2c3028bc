use Rattle.std.proofs.Common.{◌≡◌, None, Some, option_map, sym, ap, ◌∙◌}
use Rattle.cli_options.specs.Worded.{side_word}
use Rattle.cli_options.proofs.Tells.{nothing_told, told_without_side}
use Rattle.cli_options.proofs.Nothing.{unsided_names_nothing}
use Rattle.cli_options.proofs.command_line.handshake_named.Goals as goal

pub returns-in-Ok-None : goal.returns-in-Ok-None
returns-in-Ok-None c = nothing_told _ c.usage.result c.usage.ensures
    (unsided_names_nothing _ (λ side named. let bad : None ≡ Some (side_word side) = sym (c.in-Ok-None.ensures ∙ ap (option_map side_word) c.in-Ok-None.field-0-is) ∙ named in cc))

pub returns-in-Err : goal.returns-in-Err
returns-in-Err c = told_without_side _ _ c.in-Err.ensures
