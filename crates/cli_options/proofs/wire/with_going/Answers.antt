use Rattle.cli_options.proofs.wire.with_going.Goals as goal

pub returns : goal.returns
returns c = λ app made. c.with_options.ensures _ (c.with_flags-going.ensures app made)
