use Rattle.clap.specs.Words.{found_of, rows_of}
use Rattle.cli_options.proofs.Tells.{unnamed_told}
use Rattle.cli_options.proofs.Nothing.{unlisted}
use Rattle.cli_options.proofs.command_line.calls_named.Goals as goal

pub returns-in-None : goal.returns-in-None
returns-in-None c = unnamed_told _ c.usage.result c.usage.ensures (unlisted (rows_of (found_of c.args.inner.now)) c.in-None.ensures)
