use Rattle.cli_run.proofs.SameRuns.{one_within}
use Rattle.cli_run.proofs.laws.one_within.Goals as goal

pub returns : goal.returns
returns g c = one_within _ _ _ _ _ _
