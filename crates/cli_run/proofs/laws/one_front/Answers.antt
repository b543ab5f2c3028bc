use Rattle.cli_run.proofs.Outputs.{one_front}
use Rattle.cli_run.proofs.laws.one_front.Goals as goal

pub returns : goal.returns
returns c = one_front
