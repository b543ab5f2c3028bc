use Rattle.cli_run.proofs.PartLaws.{looks_at_few}
use Rattle.cli_run.proofs.laws.looks_at_few.Goals as goal

pub returns : goal.returns
returns c = looks_at_few
