use Rattle.std.proofs.Common.{ℕ, ◌++◌, drop, ap, sym, subst, ◌∙◌, arith}
use Rattle.dbus_value_model.specs.declared.limits.Limits.{Limits}
use Rattle.dbus_value_model.specs.declared.order.Order.{Order}
use Rattle.dbus_message_model.specs.Messages.{message_bytes}
use Rattle.dbus_header.specs.MessageOutcomes.{IsWhole}
use Rattle.dbus_validate.specs.Validating.{IsValidated}
use Rattle.dbus_c.specs.Checking.{IsChecked}
use Rattle.dbus_c.specs.GivenLimits.{limits_of}
use Rattle.dbus_c.specs.Outcomes.{order_named}
use Rattle.dbus_c.proofs.Outcomes.{with_room_same}
use Rattle.dbus_c.proofs.Swapped.{all_written, none_written, short_written}
use Rattle.dbus_c.proofs.swapping.dbus_wire_swap.Goals as goal

pub write_in-requires : goal.write_in-requires
write_in-requires c = record {
  validated = subst (λ (l : Limits). IsValidated l c.args.bytes.now c.in-Ok.validated) (sym c.given_limits.ensures) c.in-Ok.ensures.validated;
  room = omega arith;
}

pub returns-then-out-validated-clause-swaps : goal.returns-then-out-validated-clause-swaps
returns-then-out-validated-clause-swaps c =
    let is = c.in-Ok.ensures.validated in
    short_written (limits_of c.args.limits.now) c.args.bytes.now (order_named c.args.order) c.args.out.now c.in-Ok.validated.order is.message c.in-Ok.validated.length is.whole (omega arith)

pub returns-else-out-validated-clause-swaps : goal.returns-else-out-validated-clause-swaps
returns-else-out-validated-clause-swaps c =
    let limits = limits_of c.args.limits.now in
    let validated = c.in-Ok.validated in
    let is = c.in-Ok.ensures.validated in
    let whole = subst (λ (l : Limits). IsWhole l c.args.bytes.now validated.order is.message validated.length) (sym c.given_limits.ensures) is.whole in
    let written = c.write_in.ensures is.message whole ∙ ap (λ (o : Order). message_bytes o is.message ++ drop validated.length c.args.out.now) c.order_of.ensures in
    all_written limits c.args.bytes.now (order_named c.args.order) c.args.out.now validated.order is.message validated.length is.whole c.write_in.new.out (omega arith) written

pub returns-in-Err-clause-checked : goal.returns-in-Err-clause-checked
returns-in-Err-clause-checked c =
    subst (λ (n : ℕ). IsChecked (limits_of c.args.limits.now) c.args.bytes.now n c.first_validated.new.told) (sym (with_room_same c.in-Err.answer c.in-Err.ensures.most)) c.in-Err.ensures.checked

pub returns-in-Err-clause-swaps : goal.returns-in-Err-clause-swaps
returns-in-Err-clause-swaps c =
    none_written (limits_of c.args.limits.now) c.args.bytes.now (order_named c.args.order) c.args.out.now
    (λ order m n whole. let is = (c.in-Err.ensures.checked.exact.whole order m n whole).0 in omega (arith, is, c.in-Err.ensures.none)) c.in-Err.answer
