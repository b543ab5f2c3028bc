use Rattle.std.proofs.Common.{ℕ, rules, subst, sym, arith}
use Rattle.dbus_header.specs.MessageOutcomes.{IsWhole}
use Rattle.dbus_header.proofs.OutcomeLaws.{one_whole}
use Rattle.dbus_json.specs.declared.integers.Integers.TheVariants.{Exact}
use Rattle.dbus_json.specs.JsonMessages.{IsJsonLine}
use Rattle.dbus_message_model.specs.Messages.{MessageTree}
use Rattle.dbus_validate.specs.Validating.{IsValidated}
use Rattle.dbus_value_model.specs.declared.limits.Limits.{Limits}
use Rattle.dbus_value_model.specs.declared.order.Order.{Order}
use Rattle.dbus_c.specs.Checking.{IsChecked}
use Rattle.dbus_c.specs.GivenLimits.{limits_of}
use Rattle.dbus_c.specs.JsonLines.{line_place}
use Rattle.dbus_c.proofs.Filled.{ended}
use Rattle.dbus_c.proofs.Outcomes.{with_room_same}
use Rattle.dbus_c.proofs.json_lines.dbus_wire_json.Goals as goal

pub write_line-requires : goal.write_line-requires
write_line-requires c = record { validated = subst (λ (l : Limits). IsValidated l c.args.bytes.now c.in-Ok.validated) (sym c.given_limits.ensures) c.in-Ok.ensures.validated }

pub returns-in-Ok-clause-checked : goal.returns-in-Ok-clause-checked
returns-in-Ok-clause-checked c =
    subst (λ (n : ℕ). IsChecked (limits_of c.args.limits.now) c.args.bytes.now n c.first_validated.new.told) (sym c.end_text.ensures.told) c.in-Ok.ensures.checked

pub returns-in-Ok-clause-written : goal.returns-in-Ok-clause-written
returns-in-Ok-clause-written c = λ order m n whole.
    let limits = c.given_limits.result in
    let b = c.args.bytes.now in
    let v = c.in-Ok.validated in
    let is = c.in-Ok.ensures.validated in
    let one = one_whole (limits_of c.args.limits.now) b v.order order is.message m v.length n is.whole whole in
    let same : IsWhole (limits_of c.args.limits.now) b v.order m v.length = subst (λ (x : MessageTree). IsWhole (limits_of c.args.limits.now) b v.order x v.length) one.1 is.whole in
    let own : IsWhole limits b v.order m v.length = subst (λ (l : Limits). IsWhole l b v.order m v.length) (sym c.given_limits.ensures) same in
    let line = c.write_line.ensures m own in (
      line.0,
      subst (λ (o : Order). IsJsonLine Exact o m (line_place c.args.place.now) line.0) one.0 line.1,
      ended c.args.out.now line.0 _ _ _ c.new-room.ensures.begins line.2 c.end_text.ensures.gains _ c.end_text.result (search rules) c.end_text.ensures.answers,
      line.3,
    )

pub returns-in-Err-clause-checked : goal.returns-in-Err-clause-checked
returns-in-Err-clause-checked c =
    subst (λ (n : ℕ). IsChecked (limits_of c.args.limits.now) c.args.bytes.now n c.first_validated.new.told) (sym (with_room_same c.in-Err.answer c.in-Err.ensures.most)) c.in-Err.ensures.checked

pub returns-in-Err-clause-written : goal.returns-in-Err-clause-written
returns-in-Err-clause-written c = λ order m n whole. let is = (c.in-Err.ensures.checked.exact.whole order m n whole).0 in absurd (omega (arith, is, c.in-Err.ensures.none))
