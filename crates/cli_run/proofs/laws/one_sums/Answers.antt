use Rattle.cli_run.proofs.SameRuns.{one_sums}
use Rattle.cli_run.proofs.laws.one_sums.Goals as goal

pub returns : goal.returns
returns g c = one_sums _ _ _ _ _ _
