use Rattle.cli_options.proofs.wire.with_options.Goals as goal

pub returns : goal.returns
returns c = λ app made. c.with_flags-2.ensures _ (c.with_limits-limited.ensures _ (c.with_flags.ensures app made))
