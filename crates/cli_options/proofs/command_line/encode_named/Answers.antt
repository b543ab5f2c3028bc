use Rattle.std.proofs.Common.{refl}
use Rattle.cli_options.proofs.Tells.{told_without_encoding}
use Rattle.cli_options.proofs.command_line.encode_named.Goals as goal

pub returns-in-Ok : goal.returns-in-Ok
returns-in-Ok c = (refl, c.in-Ok.ensures)

pub returns-in-Err : goal.returns-in-Err
returns-in-Err c = told_without_encoding _ c.in-Err.fault c.in-Err.ensures
