use Rattle.std.proofs.Common.{◌≡◌, ◌<◌, length, true, false, ap, sym, ◌∙◌, arith}
use Rattle.std.proofs.lemmas.List.{length-drop}
use Rattle.std.proofs.lemmas.Result.{err_from_is_err_and}
use Rattle.dbus_check.specs.Checks.{Holds}
use Rattle.dbus_check.specs.Progress.{To}
use Rattle.dbus_check.proofs.PieceSteps.{both_joined, both_refused, both_fed, all_fed}
use Rattle.dbus_check.proofs.pieces.Pieces.take.Goals.{then-loop-n-test+else-not-is_empty, else-loop-n-test}
use Rattle.dbus_check.proofs.pieces.Pieces.take.Goals as goal

pub overflow_add-n : goal.overflow_add-n
overflow_add-n c =
    let i = c.loop-n.invariant in
    let b = (c.in_ok-more.ensures.joined i.some.0 i.some.1).0 in
    let l = ap length c.rest_after.ensures ∙ length-drop c.loop-n.n c.args.piece.now in
    omega arith

pub loop-n-smaller : goal.loop-n-smaller
loop-n-smaller c =
    let i = c.loop-n.invariant in
    let b = (c.in_ok-more.ensures.joined i.some.0 i.some.1).0 in
    let l = ap length c.rest_after.ensures ∙ length-drop c.loop-n.n c.args.piece.now in
    let f = c.in_ok-more.ensures.further in
    omega (arith, b, f)

pub loop-n-preserved : goal.loop-n-preserved
loop-n-preserved c =
    let i = c.loop-n.invariant in
    let j = c.in_ok-more.ensures.joined in
    let joined = λ (to : To) (h : Holds c.args.self.now to). both_joined c.args.piece.now c.loop-n.n i.within to c.rest_after.result.now c.rest_after.ensures c.join.new.self c.in_ok-more.more (j _ (i.goes to h)) in
    record { within = (joined c.requires.valid.0 c.requires.valid.1).0; some = (_, (j i.some.0 i.some.1).1); goes = λ to h. (joined to h).1 }

pub returns-in_err-more : goal.returns-in_err-more
returns-in_err-more c = let p = err_from_is_err_and c.from_residual.result c.from_residual.ensures.1 in rw (p.1, p.2) (λ to h.
    let i = c.loop-n.invariant in
    both_refused c.args.piece.now c.loop-n.n i.within to c.rest_after.result.now c.rest_after.ensures c.in_err-more.field-0.0 (c.in_err-more.ensures.joined _ (i.goes to h)))

pub returns-then-not-is_empty-2 : goal.returns-then-not-is_empty-2
returns-then-not-is_empty-2 c = λ to h.
    let s = c.args.piece.now in
    let y = c.loop-n.self in
    let i = c.loop-n.invariant in
    let within = i.within in
    let kept = c.if-not-is_empty-2.ensures in
    let some : 0 < length y.kept.items = grind (arith, kept) in
    let all : c.loop-n.n ≡ length s = elim c.loop-n-test.branch [
      | then-loop-n-test+else-not-is_empty w ↦ let e : true ≡ false = w.if-not-is_empty.ensures ∙ sym kept in absurd cc
      | else-loop-n-test w ↦ let le = w.loop-n-test.false in omega (arith, le, within)
    ] in
    all_fed s c.loop-n.n within to y all some (i.goes to h)

pub overflow_add-result : goal.overflow_add-result
overflow_add-result c =
    let i = c.loop-n.invariant in
    let b = (c.in_ok-passed.ensures i.some.0 i.some.1).0 in
    let l = ap length c.rest_after-2.ensures ∙ length-drop c.loop-n.n c.args.piece.now in
    omega arith

pub returns : goal.returns
returns c = λ to h.
    let i = c.loop-n.invariant in
    both_fed c.args.piece.now c.loop-n.n i.within to c.rest_after-2.result.now c.rest_after-2.ensures c.pass.new.self c.in_ok-passed.passed (c.in_ok-passed.ensures _ (i.goes to h))

pub returns-in_err-passed : goal.returns-in_err-passed
returns-in_err-passed c = let p = err_from_is_err_and c.from_residual-in_err-passed.result c.from_residual-in_err-passed.ensures.1 in rw (p.1, p.2) (λ to h.
    let i = c.loop-n.invariant in
    both_refused c.args.piece.now c.loop-n.n i.within to c.rest_after-2.result.now c.rest_after-2.ensures c.in_err-passed.field-0.0 (c.in_err-passed.ensures _ (i.goes to h)))
