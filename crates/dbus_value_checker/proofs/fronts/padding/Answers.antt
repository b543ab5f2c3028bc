use Rattle.std.proofs.Common.{◌≡◌, arith}
use Rattle.dbus_value_model.proofs.Periods.{gap_below}
use Rattle.dbus_value_checker.proofs.FrontSteps.{padding_past, padding_taken, padding_waits, padding_breaks, more_zeros}
use Rattle.dbus_value_checker.proofs.fronts.padding.Goals as goal

pub returns-then-end-offset-clause-gives : goal.returns-then-end-offset-clause-gives
returns-then-end-offset-clause-gives c = rw c.refuse.ensures (padding_past c.args.alignment c.args.end c.args.offset c.args.bytes.now (omega (arith, c.gap-zeros.ensures)))

pub loop-i-preserved : goal.loop-i-preserved
loop-i-preserved c = record { there = omega arith; zero = more_zeros c.args.bytes.now c.loop-i.i c.loop-i.invariant.zero (omega arith) c.if-bytes-i-ne0.false }

pub returns-then-i-bytes-clause-gives : goal.returns-then-i-bytes-clause-gives
returns-then-i-bytes-clause-gives c =
    let g = c.gap-zeros.ensures in
    padding_waits c.args.alignment c.args.end c.args.offset c.args.bytes.now (omega arith) c.loop-i.i (omega arith) c.if-i-bytes.true c.loop-i.invariant.zero

pub returns-then-bytes-i-ne0-clause-gives : goal.returns-then-bytes-i-ne0-clause-gives
returns-then-bytes-i-ne0-clause-gives c =
    let g = c.gap-zeros.ensures in
    rw c.refuse-then-bytes-i-ne0.ensures (padding_breaks c.args.alignment c.args.end c.args.offset c.args.bytes.now (omega arith) c.loop-i.i (omega arith) (omega arith) c.loop-i.invariant.zero c.if-bytes-i-ne0.true)

pub returns-clause-gives : goal.returns-clause-gives
returns-clause-gives c =
    let g = c.gap-zeros.ensures in
    let e : c.loop-i.i ≡ c.gap-zeros.result = omega arith in
    (omega arith, padding_taken c.args.alignment c.args.end c.args.offset c.args.bytes.now (omega arith) c.gap-zeros.result g (omega arith) (rw e at c.loop-i.invariant.zero))

pub returns-then-i-bytes-clause-short : goal.returns-then-i-bytes-clause-short
returns-then-i-bytes-clause-short c = λ e.
    let g = c.gap-zeros.ensures in
    let few = gap_below c.args.alignment c.args.offset c.requires.some in
    omega arith

pub returns-clause-moves : goal.returns-clause-moves
returns-clause-moves c =
    let g = c.gap-zeros.ensures in
    let few = gap_below c.args.alignment c.args.offset c.requires.some in
    (g, omega arith, omega arith, omega arith)
