use Rattle.cli_options.proofs.wire.with_window.Goals as goal

pub returns : goal.returns
returns c = λ app made. c.with_going.ensures _ (c.with_flags-windowed.ensures app made)
