use Rattle.dbus_tool.proofs.SamePrograms.{one_program}
use Rattle.dbus_tool.proofs.laws.one_program.Goals as goal

pub returns : goal.returns
returns g c = one_program _ _ _ _ _ _ c.one_table.ensures
