use Rattle.std.proofs.Common.{ℕ, ◌+◌, [], ◌∷◌, refl}
use Rattle.std.proofs.lemmas.Result.{err_from_is_err_and}
use Rattle.dbus_value_model.specs.Reading.{Done, after, number, text, nul}
use Rattle.dbus_value_model.specs.ValueItems.{text_row}
use Rattle.dbus_value_model.specs.WantedTexts.{Only}
use Rattle.dbus_value_checker.specs.Suspended.{ended_text}
use Rattle.dbus_value_checker.proofs.Suspension.{first_err, then_err, then_ok, front_as}
use Rattle.dbus_check.proofs.field_fronts.only_front.Goals as goal

pub returns-in_err-n-clause-gives : goal.returns-in_err-n-clause-gives
returns-in_err-n-clause-gives c = let p = err_from_is_err_and c.from_residual.result c.from_residual.ensures.1 in rw (p.1, p.2) (λ order.
    let a = c.args in
    first_err a.offset a.bytes.now (number order 1 a.end (text_row a.end)) (ended_text (Only (a.wanted ∷ []))) c.in_err-n.field-0.0 (c.in_err-n.ensures.gives order))

pub returns-in_err-only_text-clause-gives : goal.returns-in_err-only_text-clause-gives
returns-in_err-only_text-clause-gives c = let p = err_from_is_err_and c.from_residual-in_err-only_text.result c.from_residual-in_err-only_text.ensures.1 in rw (p.1, p.2) (λ order.
    let a = c.args in let n = c.in_ok-n.n in let rest = c.rest_after-rest.result.now in
    then_err (λ (n : ℕ). (n, 1)) a.offset a.bytes.now (number order 1 a.end (text_row a.end)) (ended_text (Only (a.wanted ∷ []))) n (c.in_ok-n.ensures.gives order) rest c.rest_after-rest.ensures c.in_err-only_text.field-0.0
    (first_err (a.offset + 1) rest (text (Only (a.wanted ∷ [])) n) (λ t q v. after (nul q v) (λ z. Done t)) c.in_err-only_text.field-0.0 c.in_err-only_text.ensures.gives))

pub returns-clause-gives : goal.returns-clause-gives
returns-clause-gives c = λ order.
    let a = c.args in let n = c.in_ok-n.n in let w = a.wanted ∷ [] in let rest = c.rest_after-rest.result.now in
    then_ok (λ (n : ℕ). (n, 1)) a.offset a.bytes.now (number order 1 a.end (text_row a.end)) (ended_text (Only w)) n (c.in_ok-n.ensures.gives order) rest c.rest_after-rest.ensures (λ (x : Unit {0}). (w, 2)) (λ (x : Unit {0}). (w, 3)) tt
    (then_ok (λ (x : Unit {0}). (w, 1)) (a.offset + 1) rest (text (Only w) n) (λ t q v. after (nul q v) (λ z. Done t)) tt c.in_ok-only_text.ensures.gives c.rest_after.result.now c.rest_after.ensures (λ (x : Unit {0}). (w, 1)) (λ (x : Unit {0}). (w, 2)) tt
    (front_as (λ (x : Unit {0}). (tt, 1)) (λ (x : Unit {0}). (w, 1)) (λ (x : Unit {0}). w) (a.offset + 1 + 1) c.rest_after.result.now nul tt c.in_ok-nul_front.ensures.gives tt refl refl) tt refl refl) tt refl refl

pub returns-in_err-nul_front-clause-gives : goal.returns-in_err-nul_front-clause-gives
returns-in_err-nul_front-clause-gives c = let p = err_from_is_err_and c.from_residual-in_err-nul_front.result c.from_residual-in_err-nul_front.ensures.1 in rw (p.1, p.2) (λ order.
    let a = c.args in let n = c.in_ok-n.n in let w = a.wanted ∷ [] in let rest = c.rest_after-rest.result.now in
    then_err (λ (n : ℕ). (n, 1)) a.offset a.bytes.now (number order 1 a.end (text_row a.end)) (ended_text (Only w)) n (c.in_ok-n.ensures.gives order) rest c.rest_after-rest.ensures c.in_err-nul_front.field-0.0
    (then_err (λ (x : Unit {0}). (w, 1)) (a.offset + 1) rest (text (Only w) n) (λ t q v. after (nul q v) (λ z. Done t)) tt c.in_ok-only_text.ensures.gives c.rest_after.result.now c.rest_after.ensures c.in_err-nul_front.field-0.0
    (first_err (a.offset + 1 + 1) c.rest_after.result.now nul (λ z. Done w) c.in_err-nul_front.field-0.0 c.in_err-nul_front.ensures.gives)))
