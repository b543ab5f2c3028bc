use Rattle.cli_options.proofs.wire.command.Goals as goal

pub returns : goal.returns
returns c = c.with_flags.ensures _ c.bare.ensures
