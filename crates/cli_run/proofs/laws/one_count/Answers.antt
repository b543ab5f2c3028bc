use Rattle.cli_run.proofs.SameRuns.{one_count}
use Rattle.cli_run.proofs.laws.one_count.Goals as goal

pub returns : goal.returns
returns g c = one_count _ _ _ _ _ _ c.one_table.ensures
