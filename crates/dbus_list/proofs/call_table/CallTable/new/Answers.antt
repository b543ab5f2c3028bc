use Rattle.std.proofs.Common.{ap, option_map}
use Rattle.dbus_list.specs.Pairs.{KeepsCalls, kept}
use Rattle.dbus_list.proofs.call_table.CallTable.new.Goals as goal

pub returns : goal.returns
unfolding KeepsCalls
returns c = λ caller serial. ap (option_map kept) (c.new.ensures caller serial)
