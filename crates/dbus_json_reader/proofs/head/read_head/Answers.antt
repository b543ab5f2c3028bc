use Rattle.std.proofs.Common.{ℕ, sym, subst, arith, codes}
use Rattle.json.specs.Find.{get}
use Rattle.json.specs.Value.{value_view}
use Rattle.dbus_json_reader.specs.JsonFaults.{IsOneOf}
use Rattle.dbus_json_reader.specs.JsonMessages.{SpellsOr}
use Rattle.dbus_json_reader.specs.JsonRules.{IsHeadFault, ValueShows, order, flags, serial, order_reason, unsigned_reason}
use Rattle.dbus_json_reader.specs.declared.reasons.JsonReason.TheVariants.{Range}
use Rattle.dbus_json_reader.proofs.Shapes.{if_err}
use Rattle.dbus_json_reader.proofs.Shown.{err_is, kind_shown, none_other, one_of}
use Rattle.dbus_json_reader.proofs.head.read_head.Goals as goal

pub returns-in_err-order-clause-refused : goal.returns-in_err-order-clause-refused
returns-in_err-order-clause-refused g c = if_err _ c.from_residual.result (λ order kind flags serial a b d h. c.in_err-order.ensures.refused order h.ordered)

pub returns-in_err-order-clause-shown : goal.returns-in_err-order-clause-shown
returns-in_err-order-clause-shown g c =
    let j = value_view c.args.json.now in
    err_is (IsOneOf (IsHeadFault j)) c.from_residual.result c.in_err-order.field-0.0 c.from_residual.ensures.1
    (one_of (ValueShows (codes "order") order_reason j) (IsHeadFault j) _ (λ r n h. order (λ o. c.in_err-order.ensures.refused o.0 o.1) h) c.in_err-order.ensures.shown)

pub returns-in_err-kind-clause-refused : goal.returns-in_err-kind-clause-refused
returns-in_err-kind-clause-refused g c = if_err _ c.from_residual-in_err-kind.result (λ order kind flags serial a b d h. c.in_err-kind.ensures.refused kind a h.type h.told h.kind_is)

pub returns-in_err-kind-clause-shown : goal.returns-in_err-kind-clause-shown
returns-in_err-kind-clause-shown g c =
    let j = value_view c.args.json.now in
    err_is (IsOneOf (IsHeadFault j)) c.from_residual-in_err-kind.result c.in_err-kind.field-0.0 c.from_residual-in_err-kind.ensures.1
    (kind_shown j _ (c.in_ok-order.order, c.in_ok-order.ensures.ok) (λ k. c.in_err-kind.ensures.refused k.2 k.3 k.0 k.1 k.4) c.in_err-kind.ensures.missing c.in_err-kind.ensures.shown)

pub returns-in_err-flags-clause-refused : goal.returns-in_err-flags-clause-refused
returns-in_err-flags-clause-refused g c = if_err _ c.from_residual-in_err-flags.result (λ order kind flags serial a b d h. c.in_err-flags.ensures.refused flags (omega (arith, b, c.from.ensures)) h.flags_are)

pub returns-in_err-flags-clause-shown : goal.returns-in_err-flags-clause-shown
returns-in_err-flags-clause-shown g c =
    let j = value_view c.args.json.now in
    let kind = c.in_ok-kind.ensures.ok in
    err_is (IsOneOf (IsHeadFault j)) c.from_residual-in_err-flags.result c.in_err-flags.field-0.0 c.from_residual-in_err-flags.ensures.1
    (one_of (ValueShows (codes "flags") (unsigned_reason Range) j) (IsHeadFault j) _
    (λ r n h. flags (c.in_ok-order.order, c.in_ok-order.ensures.ok) (kind.0, kind.1, c.in_ok-kind.kind, omega arith, kind.2) (λ m. c.in_err-flags.ensures.refused m.0 (omega (arith, m.1, c.from.ensures)) m.2) h)
    c.in_err-flags.ensures.shown)

pub returns-in_err-serial-clause-refused : goal.returns-in_err-serial-clause-refused
returns-in_err-serial-clause-refused g c = if_err _ c.from_residual-in_err-serial.result (λ order kind flags serial a b d h.
    c.in_err-serial.ensures.refused serial (omega (arith, d, c.from-3.ensures)) (subst (λ (n : ℕ). SpellsOr n serial (get (codes "serial") (value_view c.args.json.now))) (sym c.from-2.ensures) h.serial_is))

pub returns-in_err-serial-clause-shown : goal.returns-in_err-serial-clause-shown
returns-in_err-serial-clause-shown g c =
    let j = value_view c.args.json.now in
    let kind = c.in_ok-kind.ensures.ok in
    let fit = c.in_ok-flags.ensures.ok in
    let few = fit.0 in
    let none = none_other _ _ (get (codes "serial") j) (omega (arith, c.from-2.ensures, c.from-3.ensures)) c.in_err-serial.ensures.refused in
    err_is (IsOneOf (IsHeadFault j)) c.from_residual-in_err-serial.result c.in_err-serial.field-0.0 c.from_residual-in_err-serial.ensures.1
    (one_of (ValueShows (codes "serial") (unsigned_reason Range) j) (IsHeadFault j) _
    (λ r n h. serial (c.in_ok-order.order, c.in_ok-order.ensures.ok) (kind.0, kind.1, c.in_ok-kind.kind, omega arith, kind.2) (c.in_ok-flags.field-0, omega (arith, few, c.from.ensures), fit.1)
    (λ m. none m.0 (omega (arith, m.1, c.from-3.ensures)) m.2) h)
    c.in_err-serial.ensures.shown)
