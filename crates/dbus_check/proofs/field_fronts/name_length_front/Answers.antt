use Rattle.std.proofs.Common.{ℕ, ◌+◌, ◌<◌, length, refl, ap, subst, arith}
use Rattle.std.proofs.lemmas.List.{length-drop}
use Rattle.std.proofs.lemmas.Result.{err_from_is_err_and}
use Rattle.dbus_value_model.specs.declared.fault.Reason.TheVariants as reasons
use Rattle.dbus_value_model.specs.declared.stop.Stop.{Stop}
use Rattle.dbus_value_model.specs.declared.stop.Stop.TheVariants as stops
use Rattle.dbus_value_model.specs.Items.{fault}
use Rattle.dbus_value_model.proofs.Periods.{gap_below}
use Rattle.dbus_header.specs.MessageItems.{name_row}
use Rattle.dbus_value_checker.specs.Fronts.{Lack}
use Rattle.dbus_value_checker.proofs.FrontSteps.{lacks_number, number_taken, number_refused}
use Rattle.dbus_header.proofs.FieldSteps.{long_name}
use Rattle.dbus_check.proofs.FieldSteps.{name_fits, name_past, padded_stops, padded_number_stops, padded_number_there}
use Rattle.dbus_check.proofs.field_fronts.name_length_front.Goals as goal

pub returns-in_err-zeros-clause-gives : goal.returns-in_err-zeros-clause-gives
returns-in_err-zeros-clause-gives c = let p = err_from_is_err_and c.from_residual.result c.from_residual.ensures.1 in rw (p.1, p.2)
    (let a = c.args in padded_stops a.order a.end a.offset a.bytes.now (name_row a.end) c.in_err-zeros.field-0.0 c.in_err-zeros.ensures.gives)

pub returns-in_err-n-clause-gives : goal.returns-in_err-n-clause-gives
returns-in_err-n-clause-gives c = let p = err_from_is_err_and c.from_residual-in_err-n.result c.from_residual-in_err-n.ensures.1 in rw (p.1, p.2)
    (let a = c.args in let z = c.in_ok-zeros.zeros in let rest = c.rest_after.result.now in
    padded_number_stops a.order a.end a.offset a.bytes.now (name_row a.end) z c.in_ok-zeros.ensures.gives rest c.rest_after.ensures c.in_err-n.field-0.0 (lacks_number a.order 4 a.end (name_row a.end) (a.offset + z) rest c.in_err-n.field-0.0 c.in_err-n.ensures))

pub returns-in_err-n-clause-short : goal.returns-in_err-n-clause-short
returns-in_err-n-clause-short c = let p = err_from_is_err_and c.from_residual-in_err-n.result c.from_residual-in_err-n.ensures.1 in rw (p.1, p.2) (λ e.
    let lack = subst (λ (stop : Stop). Lack 4 (c.args.offset + c.in_ok-zeros.zeros) c.args.end c.rest_after.result.now stop) e c.in_err-n.ensures in
    let h = lack.0 in
    let l = ap length c.rest_after.ensures in
    let d = length-drop c.in_ok-zeros.zeros c.args.bytes.now in
    let gap = c.in_ok-zeros.ensures.moves.0 in
    let few : c.in_ok-zeros.zeros < 4 = omega (arith, gap_below 4 c.args.offset (omega arith), gap) in
    omega arith)

pub returns-then-n-gt-NAME_LIMIT-clause-gives : goal.returns-then-n-gt-NAME_LIMIT-clause-gives
returns-then-n-gt-NAME_LIMIT-clause-gives c =
    let a = c.args in let z = c.in_ok-zeros.zeros in let rest = c.rest_after.result.now in let h = c.in_ok-n.ensures in
    rw c.refuse.ensures (padded_number_stops a.order a.end a.offset a.bytes.now (name_row a.end) z c.in_ok-zeros.ensures.gives rest c.rest_after.ensures (stops.Refused (fault (a.offset + z) reasons.NameTooLong))
    (number_refused a.order 4 a.end (name_row a.end) (a.offset + z) rest c.in_ok-n.n h.0 h.1 h.2 reasons.NameTooLong (long_name a.end (a.offset + z + 4) c.in_ok-n.n (omega arith))))

pub returns-then-end-at-clause-gives : goal.returns-then-end-at-clause-gives
returns-then-end-at-clause-gives c =
    let a = c.args in let z = c.in_ok-zeros.zeros in let rest = c.rest_after.result.now in let h = c.in_ok-n.ensures in let low = h.1 in
    rw c.refuse-then-end-at.ensures (padded_number_stops a.order a.end a.offset a.bytes.now (name_row a.end) z c.in_ok-zeros.ensures.gives rest c.rest_after.ensures (stops.Refused (fault (a.offset + z) reasons.Overrun))
    (number_refused a.order 4 a.end (name_row a.end) (a.offset + z) rest c.in_ok-n.n h.0 h.1 h.2 reasons.Overrun (name_past a.end (a.offset + z + 4) c.in_ok-n.n (omega arith) (omega arith))))

pub returns-clause-gives : goal.returns-clause-gives
returns-clause-gives c =
    let a = c.args in let z = c.in_ok-zeros.zeros in let rest = c.rest_after.result.now in let n = c.in_ok-n.n in let h = c.in_ok-n.ensures in let low = h.1 in
    padded_number_there a.order a.end a.offset a.bytes.now (name_row a.end) z c.in_ok-zeros.ensures.gives rest c.rest_after.ensures (λ (x : ℕ × ℕ). x) n
    (h.0, number_taken a.order 4 a.end (name_row a.end) (a.offset + z) rest n h.0 h.1 h.2 (name_fits a.end (a.offset + z + 4) n (omega arith) (omega arith))) (n, z + 4) refl refl
