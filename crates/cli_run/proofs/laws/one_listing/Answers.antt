use Rattle.cli_run.proofs.SameRuns.{one_listing}
use Rattle.cli_run.proofs.laws.one_listing.Goals as goal

pub returns : goal.returns
returns g c = one_listing _ _ _ _ _ _
