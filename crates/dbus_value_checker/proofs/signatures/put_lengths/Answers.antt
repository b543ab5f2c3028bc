use Rattle.std.proofs.Common.{[], ◌∷◌}
use Rattle.dbus_types.proofs.TypeLengths.{one_length}
use Rattle.dbus_value_checker.proofs.signatures.put_lengths.Goals as goal

pub returns-then-types-eq1 : goal.returns-then-types-eq1
returns-then-types-eq1 c = (1 ∷ [], one_length c.args.types.now c.if-types-eq1.true, c.put.ensures)
