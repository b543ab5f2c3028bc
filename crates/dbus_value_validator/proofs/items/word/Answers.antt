use Rattle.std.proofs.Common.{arith, refl, drop}
use Rattle.dbus_value_model.specs.Items.{no_row}
use Rattle.dbus_value_laws.proofs.ReadSteps.{number_done, number_overrun}
use Rattle.dbus_value_model.specs.Reading.{number}
use Rattle.dbus_value_validator.proofs.ReadParts.{not_faulty}
use Rattle.dbus_value_validator.proofs.items.word.Goals as goal

pub returns-clause-gives : goal.returns-clause-gives
returns-clause-gives c = number_done c.args.order 4 c.args.end no_row c.args.at c.args.bytes.now (omega arith) c.u32_at.result (omega arith) c.u32_at.ensures.spelled refl

pub returns-then-end-at-lt4-clause-none : goal.returns-then-end-at-lt4-clause-none
returns-then-end-at-lt4-clause-none c = λ none. not_faulty (number c.args.order 4 c.args.end no_row c.args.at (drop c.args.at c.args.bytes.now)) _ (number_overrun c.args.order 4 c.args.end no_row c.args.at c.args.bytes.now (omega arith))
