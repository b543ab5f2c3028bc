use Rattle.cli_options.proofs.wire.with_selection.Goals as goal

pub returns : goal.returns
returns c = λ app made. c.with_flags.ensures app made
