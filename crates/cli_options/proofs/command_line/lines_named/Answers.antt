use Rattle.clap.specs.Words.{found_of, rows_of}
use Rattle.cli_options.proofs.Tells.{unnamed_told}
use Rattle.cli_options.proofs.Nothing.{unlined}
use Rattle.cli_options.proofs.command_line.lines_named.Goals as goal

pub returns-in-None : goal.returns-in-None
returns-in-None c = unnamed_told _ c.usage.result c.usage.ensures (unlined (rows_of (found_of c.args.inner.now)) c.in-None.ensures)
