use Rattle.std.proofs.Common.{drop}
use Rattle.dbus_value_model.specs.declared.fault.Reason.TheVariants as reasons
use Rattle.dbus_header.specs.MessageItems.{not_zero_row}
use Rattle.dbus_value_laws.proofs.ReadSteps.{number_passes, number_fails, number_stops}
use Rattle.dbus_header.proofs.Whole.{exits, zero_row, some_row}
use Rattle.dbus_header.proofs.fixed_header.read_kind.Goals as goal

pub returns-in_err-kind-clause-gives : goal.returns-in_err-kind-clause-gives
returns-in_err-kind-clause-gives c order = exits (λ k. (k, 2)) c.args.bytes.now c.from_residual.result _ _ c.from_residual.ensures.1
    (number_stops order 1 16 (not_zero_row reasons.Kind) 1 (drop 1 c.args.bytes.now) _ (c.in_err-kind.ensures.gives order))

pub returns-then-kind-eq0-clause-gives : goal.returns-then-kind-eq0-clause-gives
returns-then-kind-eq0-clause-gives c order = rw c.refuse.ensures
    (number_fails order 1 16 (not_zero_row reasons.Kind) 1 (drop 1 c.args.bytes.now) _ _ _ (c.in_ok-kind.ensures.gives order) reasons.Kind (zero_row reasons.Kind 2 _ c.if-kind-eq0.true))

pub returns-clause-gives : goal.returns-clause-gives
returns-clause-gives c order = number_passes order 1 16 (not_zero_row reasons.Kind) 1 (drop 1 c.args.bytes.now) _ _ _ (c.in_ok-kind.ensures.gives order) (some_row reasons.Kind 2 _ c.if-kind-eq0.false)
