use Rattle.std.proofs.Common.{length, ap, arith}
use Rattle.std.proofs.lemmas.List.{length-drop}
use Rattle.std.proofs.lemmas.Result.{err_from_is_err_and}
use Rattle.dbus_check.proofs.FieldLaws.{both_move, second_stops, coded_stops}
use Rattle.dbus_check.proofs.progress.Progress.field.Goals as goal

pub returns-in_err-code-clause-moves : goal.returns-in_err-code-clause-moves
returns-in_err-code-clause-moves c = let p = err_from_is_err_and c.from_residual.result c.from_residual.ensures.1 in rw (p.1, p.2)
    (λ to w. coded_stops c.args.self.now c.args.bytes.now c.in_err-code.field-0.0 to (c.in_err-code.ensures.coded to w))

pub value-requires-clause-valid : goal.value-requires-clause-valid
value-requires-clause-valid c = (_, (c.in_ok-code.ensures.coded c.requires.valid.0 c.requires.valid.1).1)

pub returns-clause-moves : goal.returns-clause-moves
returns-clause-moves c = λ to w.
    let k = c.in_ok-code.ensures.coded to w in
    both_move c.args.self.now c.value.new.self c.args.bytes.now c.in_ok-code.n k.0 to c.rest_after.result.now c.rest_after.ensures c.in_ok-size.size (c.in_ok-size.ensures.moves _ k.1)

pub returns-in_err-size-clause-moves : goal.returns-in_err-size-clause-moves
returns-in_err-size-clause-moves c = let p = err_from_is_err_and c.from_residual-in_err-size.result c.from_residual-in_err-size.ensures.1 in rw (p.1, p.2) (λ to w.
    let k = c.in_ok-code.ensures.coded to w in
    second_stops c.args.self.now c.value.new.self c.args.bytes.now c.in_ok-code.n k.0 to c.rest_after.result.now c.rest_after.ensures c.in_err-size.field-0.0 (c.in_err-size.ensures.moves _ k.1))

pub returns-in_err-size-clause-short : goal.returns-in_err-size-clause-short
returns-in_err-size-clause-short c = let p = err_from_is_err_and c.from_residual-in_err-size.result c.from_residual-in_err-size.ensures.1 in rw (p.1, p.2)
    (λ e. omega (arith, c.in_err-size.ensures.short e, ap length c.rest_after.ensures, length-drop c.in_ok-code.n c.args.bytes.now, c.in_ok-code.ensures.few))
