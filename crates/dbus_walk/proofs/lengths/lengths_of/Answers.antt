use Rattle.std.proofs.Common.{arith}
use Rattle.dbus_types.proofs.TypeLengths.{one_length}
use Rattle.dbus_walk.proofs.lengths.lengths_of.Goals as goal

pub returns-then-types-eq1 : goal.returns-then-types-eq1
returns-then-types-eq1 c = one_length c.args.types.now (omega arith)
