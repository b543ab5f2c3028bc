use Rattle.std.proofs.Common.{drop, arith}
use Rattle.dbus_value_model.specs.declared.fault.Reason.TheVariants as reasons
use Rattle.dbus_header.specs.MessageItems.{fields_row}
use Rattle.dbus_value_laws.proofs.ReadSteps.{number_passes, number_fails, number_stops}
use Rattle.dbus_header.proofs.Whole.{exits, long_fields, long_message}
use Rattle.dbus_header.proofs.MessageParts.{fits_fields_row}
use Rattle.dbus_header.proofs.fixed_header.read_fields_length.Goals as goal

pub returns-in_err-fields-clause-gives : goal.returns-in_err-fields-clause-gives
returns-in_err-fields-clause-gives c = exits (λ n. (n, 16)) c.args.bytes.now c.from_residual.result _ _ c.from_residual.ensures.1
    (number_stops c.args.order 4 16 (fields_row c.args.limits c.args.body) 12 (drop 12 c.args.bytes.now) _ c.in_err-fields.ensures.gives)

pub returns-then-fields-limits-clause-gives : goal.returns-then-fields-limits-clause-gives
returns-then-fields-limits-clause-gives c = rw c.refuse.ensures
    (number_fails c.args.order 4 16 (fields_row c.args.limits c.args.body) 12 (drop 12 c.args.bytes.now) _ _ _ c.in_ok-fields.ensures.gives reasons.ArrayTooLong (long_fields c.args.limits c.args.body 16 _ c.if-fields-limits.true))

pub returns-then-end-from-clause-gives : goal.returns-then-end-from-clause-gives
returns-then-end-from-clause-gives c = rw c.refuse-then-end-from.ensures
    (number_fails c.args.order 4 16 (fields_row c.args.limits c.args.body) 12 (drop 12 c.args.bytes.now) _ _ _ c.in_ok-fields.ensures.gives reasons.MessageTooLong
    (long_message c.args.limits c.args.body 16 c.in_ok-fields.fields c.if-fields-limits.false (omega (arith, rw c.from-end.ensures at c.padding_length.ensures.exact))))

pub returns-clause-gives : goal.returns-clause-gives
returns-clause-gives c =
    number_passes c.args.order 4 16 (fields_row c.args.limits c.args.body) 12 (drop 12 c.args.bytes.now) _ _ _ c.in_ok-fields.ensures.gives
    (fits_fields_row c.args.limits c.args.body 16 c.in_ok-fields.fields c.if-fields-limits.false (omega (arith, rw c.from-end.ensures at c.padding_length.ensures.exact)))

pub returns-clause-there : goal.returns-clause-there
returns-clause-there c = (omega (arith, c.in_ok-fields.ensures.there), omega (arith, rw c.from-end.ensures at c.padding_length.ensures.exact))
