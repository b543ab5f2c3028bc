use Rattle.cli_run.proofs.Outputs.{one_output}
use Rattle.cli_run.proofs.laws.one_output.Goals as goal

pub returns : goal.returns
returns c = one_output
