use Rattle.cli_run.proofs.LineSteps.{some_lines}
use Rattle.cli_run.proofs.laws.some_lines.Goals as goal

pub returns : goal.returns
returns c = some_lines
