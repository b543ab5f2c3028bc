use Rattle.cli_run.proofs.Files.{writes_file}
use Rattle.cli_run.proofs.laws.file_is_read.Goals as goal

pub returns : goal.returns
returns c = writes_file
