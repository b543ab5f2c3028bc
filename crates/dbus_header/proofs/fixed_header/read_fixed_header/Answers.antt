use Rattle.std.proofs.Common.{◌≡◌, ◌-◌, drop, arith}
use Rattle.dbus_value_laws.proofs.ReadSteps.{stops_after}
use Rattle.dbus_header.specs.HeaderReading.{fixed_header, opening}
use Rattle.dbus_header.proofs.Whole.{exits}
use Rattle.dbus_header.proofs.fixed_header.read_fixed_header.Goals as goal

pub returns-in_err-check_open-clause-gives : goal.returns-in_err-check_open-clause-gives
unfolding fixed_header
returns-in_err-check_open-clause-gives c =
    let none : c.args.limits.depth - 0 ≡ c.args.limits.depth = omega arith in
    exits (λ h. (h, 16)) c.args.bytes.now c.from_residual-in_err-check_open.result _ _ c.from_residual-in_err-check_open.ensures.1
    (rw (c.in_ok-order.ensures.gives, c.in_ok-kind.ensures.gives c.in_ok-order.order, c.in_ok-flags.ensures.gives c.in_ok-order.order, c.in_ok-read_version.ensures.gives c.in_ok-order.order, c.in_ok-body.ensures.gives, c.in_ok-serial.ensures.gives)
    (stops_after _ (opening c.args.limits.depth 12 (drop 12 c.args.bytes.now)) _ (rw none at c.in_err-check_open.ensures.gives c.args.bytes.now)))
