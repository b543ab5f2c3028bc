use Rattle.std.proofs.Common.{arith, refl}
use Rattle.dbus_value_model.specs.Items.{no_row}
use Rattle.dbus_value_laws.proofs.ReadSteps.{number_partial, number_done}
use Rattle.dbus_header.proofs.fixed_header.read_u32.Goals as goal

pub returns-then-bytes-at-lt4-clause-gives : goal.returns-then-bytes-at-lt4-clause-gives
returns-then-bytes-at-lt4-clause-gives c = number_partial c.args.order 4 16 no_row c.args.at c.args.bytes.now (omega arith) (omega arith) (omega arith)

pub returns-clause-gives : goal.returns-clause-gives
returns-clause-gives c = number_done c.args.order 4 16 no_row c.args.at c.args.bytes.now (omega arith) c.u32_at.result (omega arith) c.u32_at.ensures.spelled refl
