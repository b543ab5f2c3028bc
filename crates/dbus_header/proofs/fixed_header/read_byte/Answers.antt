use Rattle.std.proofs.Common.{arith, refl}
use Rattle.dbus_value_model.specs.Items.{no_row}
use Rattle.dbus_value_laws.proofs.ReadSteps.{number_partial, number_done, one_byte}
use Rattle.dbus_header.proofs.fixed_header.read_byte.Goals as goal

pub returns-then-at-bytes-clause-gives : goal.returns-then-at-bytes-clause-gives
returns-then-at-bytes-clause-gives c order = number_partial order 1 16 no_row c.args.at c.args.bytes.now (omega arith) (omega arith) (omega arith)

pub returns-clause-gives : goal.returns-clause-gives
returns-clause-gives c order = number_done order 1 16 no_row c.args.at c.args.bytes.now (omega arith) _ (omega arith) (one_byte order c.args.bytes.now c.args.at (omega arith)) refl
