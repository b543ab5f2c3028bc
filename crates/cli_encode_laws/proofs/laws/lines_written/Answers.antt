use Rattle.cli_encode_laws.proofs.Inverse.{each_written}
use Rattle.cli_encode_laws.proofs.laws.lines_written.Goals as goal

pub returns : goal.returns
returns c = each_written
