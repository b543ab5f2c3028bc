use Rattle.std.proofs.Common.{drop}
use Rattle.dbus_value_model.specs.declared.fault.Reason.TheVariants as reasons
use Rattle.dbus_header.specs.MessageItems.{not_zero_row}
use Rattle.dbus_value_laws.proofs.ReadSteps.{number_passes, number_fails, number_stops}
use Rattle.dbus_header.proofs.Whole.{exits, zero_row, some_row}
use Rattle.dbus_header.proofs.fixed_header.read_serial.Goals as goal

pub returns-in_err-serial-clause-gives : goal.returns-in_err-serial-clause-gives
returns-in_err-serial-clause-gives c = exits (λ n. (n, 12)) c.args.bytes.now c.from_residual.result _ _ c.from_residual.ensures.1
    (number_stops c.args.order 4 16 (not_zero_row reasons.ZeroSerial) 8 (drop 8 c.args.bytes.now) _ c.in_err-serial.ensures.gives)

pub returns-then-serial-eq0-clause-gives : goal.returns-then-serial-eq0-clause-gives
returns-then-serial-eq0-clause-gives c = rw c.refuse.ensures
    (number_fails c.args.order 4 16 (not_zero_row reasons.ZeroSerial) 8 (drop 8 c.args.bytes.now) _ _ _ c.in_ok-serial.ensures.gives reasons.ZeroSerial (zero_row reasons.ZeroSerial 12 _ c.if-serial-eq0.true))

pub returns-clause-gives : goal.returns-clause-gives
returns-clause-gives c = number_passes c.args.order 4 16 (not_zero_row reasons.ZeroSerial) 8 (drop 8 c.args.bytes.now) _ _ _ c.in_ok-serial.ensures.gives (some_row reasons.ZeroSerial 12 _ c.if-serial-eq0.false)
