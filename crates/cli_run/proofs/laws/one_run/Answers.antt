use Rattle.cli_run.proofs.SameRuns.{one_run}
use Rattle.cli_run.proofs.laws.one_run.Goals as goal

pub returns : goal.returns
returns g c = one_run _ _ _ _ _ _
