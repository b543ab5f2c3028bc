use Rattle.std.proofs.Common.{arith, refl, drop}
use Rattle.dbus_value_model.specs.Items.{no_row}
use Rattle.dbus_value_laws.proofs.ReadSteps.{number_done, number_overrun, one_byte}
use Rattle.dbus_value_model.specs.Reading.{number}
use Rattle.dbus_value_validator.proofs.ReadParts.{not_faulty}
use Rattle.dbus_value_validator.proofs.items.byte.Goals as goal

pub returns-clause-gives : goal.returns-clause-gives
returns-clause-gives c = λ order. number_done order 1 c.args.end no_row c.args.at c.args.bytes.now (omega arith) _ (omega arith) (one_byte order c.args.bytes.now c.args.at (omega arith)) refl

pub returns-then-end-at-clause-none : goal.returns-then-end-at-clause-none
returns-then-end-at-clause-none c = λ none order. not_faulty (number order 1 c.args.end no_row c.args.at (drop c.args.at c.args.bytes.now)) _ (number_overrun order 1 c.args.end no_row c.args.at c.args.bytes.now (omega arith))
