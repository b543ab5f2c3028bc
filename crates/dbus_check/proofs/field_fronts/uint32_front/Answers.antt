use Rattle.std.proofs.Common.{ℕ, ◌+◌, ◌<◌, length, refl, ap, subst, arith}
use Rattle.std.proofs.lemmas.List.{length-drop}
use Rattle.std.proofs.lemmas.Result.{err_from_is_err_and}
use Rattle.dbus_value_model.specs.declared.fault.Reason.TheVariants as reasons
use Rattle.dbus_value_model.specs.declared.stop.Stop.{Stop}
use Rattle.dbus_value_model.specs.declared.stop.Stop.TheVariants as stops
use Rattle.dbus_value_model.specs.Items.{fault}
use Rattle.dbus_value_model.proofs.Periods.{gap_below}
use Rattle.dbus_value_checker.specs.Fronts.{Lack}
use Rattle.dbus_value_checker.proofs.FrontSteps.{lacks_number, number_taken, number_refused}
use Rattle.dbus_check.specs.Heading.{uint32_row}
use Rattle.dbus_check.proofs.FieldSteps.{any_number, no_serial, some_serial, padded_stops, padded_number_stops, padded_number_there}
use Rattle.dbus_check.proofs.field_fronts.uint32_front.Goals as goal

pub returns-in_err-zeros-clause-gives : goal.returns-in_err-zeros-clause-gives
returns-in_err-zeros-clause-gives c = let p = err_from_is_err_and c.from_residual.result c.from_residual.ensures.1 in rw (p.1, p.2)
    (let a = c.args in padded_stops a.order a.end a.offset a.bytes.now (uint32_row a.serial) c.in_err-zeros.field-0.0 c.in_err-zeros.ensures.gives)

pub returns-in_err-n-clause-gives : goal.returns-in_err-n-clause-gives
returns-in_err-n-clause-gives c = let p = err_from_is_err_and c.from_residual-in_err-n.result c.from_residual-in_err-n.ensures.1 in rw (p.1, p.2)
    (let a = c.args in let n = c.in_ok-zeros.zeros in let rest = c.rest_after.result.now in
    padded_number_stops a.order a.end a.offset a.bytes.now (uint32_row a.serial) n c.in_ok-zeros.ensures.gives rest c.rest_after.ensures c.in_err-n.field-0.0 (lacks_number a.order 4 a.end (uint32_row a.serial) (a.offset + n) rest c.in_err-n.field-0.0 c.in_err-n.ensures))

pub returns-in_err-n-clause-short : goal.returns-in_err-n-clause-short
returns-in_err-n-clause-short c = let p = err_from_is_err_and c.from_residual-in_err-n.result c.from_residual-in_err-n.ensures.1 in rw (p.1, p.2) (λ e.
    let lack = subst (λ (stop : Stop). Lack 4 (c.args.offset + c.in_ok-zeros.zeros) c.args.end c.rest_after.result.now stop) e c.in_err-n.ensures in
    let h = lack.0 in
    let l = ap length c.rest_after.ensures in
    let d = length-drop c.in_ok-zeros.zeros c.args.bytes.now in
    let gap = c.in_ok-zeros.ensures.moves.0 in
    let few : c.in_ok-zeros.zeros < 4 = omega (arith, gap_below 4 c.args.offset (omega arith), gap) in
    omega arith)

pub returns-then-not-serial-clause-gives : goal.returns-then-not-serial-clause-gives
returns-then-not-serial-clause-gives c =
    let a = c.args in let n = c.in_ok-zeros.zeros in let x = c.in_ok-n.n in let h = c.in_ok-n.ensures in let rest = c.rest_after.result.now in
    padded_number_there a.order a.end a.offset a.bytes.now (uint32_row a.serial) n c.in_ok-zeros.ensures.gives rest c.rest_after.ensures (λ (x : ℕ × ℕ). x) x
    (h.0, number_taken a.order 4 a.end (uint32_row a.serial) (a.offset + n) rest x h.0 h.1 h.2 (any_number a.serial (a.offset + n + 4) x c.if-not-serial.true)) (x, n + 4) refl refl

pub returns-then-n-eq0-clause-gives : goal.returns-then-n-eq0-clause-gives
returns-then-n-eq0-clause-gives c =
    let a = c.args in let n = c.in_ok-zeros.zeros in let h = c.in_ok-n.ensures in let rest = c.rest_after.result.now in
    let e = stops.Refused (fault (a.offset + n) reasons.ZeroSerial) in
    rw c.refuse.ensures (padded_number_stops a.order a.end a.offset a.bytes.now (uint32_row a.serial) n c.in_ok-zeros.ensures.gives rest c.rest_after.ensures e
    (number_refused a.order 4 a.end (uint32_row a.serial) (a.offset + n) rest c.in_ok-n.n h.0 h.1 h.2 reasons.ZeroSerial (no_serial a.serial (a.offset + n + 4) c.in_ok-n.n c.if-not-serial.false c.if-n-eq0.true)))

pub returns-clause-gives : goal.returns-clause-gives
returns-clause-gives c =
    let a = c.args in let n = c.in_ok-zeros.zeros in let x = c.in_ok-n.n in let h = c.in_ok-n.ensures in let rest = c.rest_after.result.now in
    padded_number_there a.order a.end a.offset a.bytes.now (uint32_row a.serial) n c.in_ok-zeros.ensures.gives rest c.rest_after.ensures (λ (x : ℕ × ℕ). x) x
    (h.0, number_taken a.order 4 a.end (uint32_row a.serial) (a.offset + n) rest x h.0 h.1 h.2 (some_serial a.serial (a.offset + n + 4) x c.if-n-eq0.false)) (x, n + 4) refl refl
