use Rattle.cli_run.proofs.BusNames.{tells_bus_names}
use Rattle.cli_run.proofs.laws.names_are_bus_names.Goals as goal

pub returns : goal.returns
returns c = tells_bus_names
