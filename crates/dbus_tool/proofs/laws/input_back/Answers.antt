use Rattle.dbus_tool.proofs.InputBack.{program_back}
use Rattle.dbus_tool.proofs.laws.input_back.Goals as goal

pub returns : goal.returns
returns g c = program_back _ _ _ _ _ _
