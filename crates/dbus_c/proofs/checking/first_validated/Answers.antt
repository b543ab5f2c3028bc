use Rattle.std.proofs.Common.{ℕ, arith, refl, subst, sym}
use Rattle.dbus_value_model.specs.declared.limits.Limits.{Limits}
use Rattle.dbus_header.specs.MessageOutcomes.{IsWhole}
use Rattle.dbus_validate.specs.Validating.{IsValidated}
use Rattle.dbus_c.specs.Checking.{IsChecked, answer_of as check_answer}
use Rattle.dbus_c.specs.GivenLimits.{limits_of}
use Rattle.dbus_c.proofs.Outcomes.{none_told}
use Rattle.dbus_c.proofs.Telling.{some_there, done_checked}
use Rattle.dbus_c.proofs.checking.first_validated.Goals as goal

pub whole_told-requires : goal.whole_told-requires
whole_told-requires c =
    let validated = c.in-Some.validated in
    let is = c.in-Some.ensures.validated in
    some_there c.given_limits-within.result c.args.bytes.now validated.length (validated.order, is.message, is.whole)

pub returns-in-Some-clause-validated : goal.returns-in-Some-clause-validated
returns-in-Some-clause-validated c = subst (λ (l : Limits). IsValidated l c.args.bytes.now c.in-Some.validated) c.given_limits-within.ensures c.in-Some.ensures.validated

pub returns-in-Some-clause-checked : goal.returns-in-Some-clause-checked
returns-in-Some-clause-checked c =
    let limits = limits_of c.args.limits.now in
    let b = c.args.bytes.now in
    let validated = c.in-Some.validated in
    let is = c.in-Some.ensures.validated in
    let whole = subst (λ (l : Limits). IsWhole l b validated.order is.message validated.length) c.given_limits-within.ensures is.whole in
    done_checked limits b validated.length c.whole_told.result (validated.order, is.message, whole) c.whole_told.ensures

pub returns-in-None-clause-checked : goal.returns-in-None-clause-checked
returns-in-None-clause-checked c =
    subst (λ (n : ℕ). IsChecked (limits_of c.args.limits.now) c.args.bytes.now n c.check_all.new.out) (sym c.answer_of.ensures)
    (subst (λ (l : Limits). IsChecked l c.args.bytes.now (check_answer c.check_all.result) c.check_all.new.out) c.given_limits-within.ensures c.check_all.ensures.checked)

pub returns-in-None-clause-none : goal.returns-in-None-clause-none
returns-in-None-clause-none c =
    let told = none_told c.given_limits-within.result c.args.bytes.now (c.in-None.ensures.none refl) _ c.check_all.new.out c.check_all.ensures.checked.tells in
    omega (arith, told.0, c.answer_of.ensures)

pub returns-in-None-clause-most : goal.returns-in-None-clause-most
returns-in-None-clause-most c =
    let told = none_told c.given_limits-within.result c.args.bytes.now (c.in-None.ensures.none refl) _ c.check_all.new.out c.check_all.ensures.checked.tells in
    omega (arith, told.1, c.answer_of.ensures)
