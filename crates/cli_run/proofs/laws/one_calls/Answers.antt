use Rattle.cli_run.proofs.SameRuns.{one_calls}
use Rattle.cli_run.proofs.laws.one_calls.Goals as goal

pub returns : goal.returns
returns g c = one_calls _ _ _ _ _ _
