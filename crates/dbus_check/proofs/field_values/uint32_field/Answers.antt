use Rattle.std.proofs.Common.{ℕ, ◌+◌, length, refl, ap, arith}
use Rattle.std.proofs.lemmas.List.{length-drop}
use Rattle.std.proofs.lemmas.Result.{err_from_is_err_and}
use Rattle.dbus_message_model.specs.Messages.{number_in}
use Rattle.dbus_check.specs.Heading.{padded_number, uint32_row, uint32_wanted}
use Rattle.dbus_check.proofs.FieldLaws.{signature_stops, value_stops, value_there, uint32_only, uint32_is}
use Rattle.dbus_check.proofs.field_values.uint32_field.Goals as goal

pub returns-in_err-only_front-clause-gives : goal.returns-in_err-only_front-clause-gives
returns-in_err-only_front-clause-gives c = let p = err_from_is_err_and c.from_residual.result c.from_residual.ensures.1 in rw (p.1, p.2) (λ limits.
    let a = c.args in
    signature_stops limits a.order a.end (uint32_wanted a.serial) number_in 117 (uint32_only a.serial) (padded_number a.order a.end (uint32_row a.serial)) a.offset a.bytes.now c.in_err-only_front.field-0.0 (c.in_err-only_front.ensures.gives a.order))

pub returns-clause-gives : goal.returns-clause-gives
returns-clause-gives c = λ limits.
    let a = c.args in
    value_there limits a.order a.end (uint32_wanted a.serial) number_in 117 (uint32_only a.serial) (padded_number a.order a.end (uint32_row a.serial)) a.offset a.bytes.now (c.in_ok-only_front.ensures.gives a.order) c.rest_after.result.now c.rest_after.ensures (uint32_is limits a.order a.end a.serial (a.offset + 3)) (λ (x : ℕ × ℕ). x) (λ (x : ℕ × ℕ). x) (c.in_ok-count.count, c.in_ok-count.n) c.in_ok-count.ensures.gives (c.in_ok-count.count, c.in_ok-count.n + 3) refl (omega arith)

pub returns-in_err-count-clause-gives : goal.returns-in_err-count-clause-gives
returns-in_err-count-clause-gives c = let p = err_from_is_err_and c.from_residual-in_err-count.result c.from_residual-in_err-count.ensures.1 in rw (p.1, p.2) (λ limits.
    let a = c.args in
    value_stops limits a.order a.end (uint32_wanted a.serial) number_in 117 (uint32_only a.serial) (padded_number a.order a.end (uint32_row a.serial)) a.offset a.bytes.now (c.in_ok-only_front.ensures.gives a.order) c.rest_after.result.now c.rest_after.ensures (uint32_is limits a.order a.end a.serial (a.offset + 3)) c.in_err-count.field-0.0 c.in_err-count.ensures.gives)

pub returns-in_err-count-clause-short : goal.returns-in_err-count-clause-short
returns-in_err-count-clause-short c = let p = err_from_is_err_and c.from_residual-in_err-count.result c.from_residual-in_err-count.ensures.1 in rw (p.1, p.2)
    (λ e. omega (arith, c.in_err-count.ensures.short e, ap length c.rest_after.ensures, length-drop 3 c.args.bytes.now, c.in_ok-only_front.ensures.moves.0))
