use Rattle.std.proofs.Common.{arith}
use Rattle.dbus_texts.proofs.ScanSteps.{quotient_start, front_refuses, front_takes, front_stops, front_ends}
use Rattle.dbus_texts.proofs.byte_scan.break_of.Goals as goal

pub loop-i-init : goal.loop-i-init
loop-i-init g c = quotient_start (g.S.ByteScan.rest c.args.start) c.requires

pub returns-then-not-step : goal.returns-then-not-step
returns-then-not-step g c = front_refuses g.S.ByteScan.rest _ c.args.text.now c.loop-i.i c.loop-i.scan c.step.new.self _ c.loop-i.invariant c.loop-i-test.true c.step.ensures c.if-not-step.true

pub loop-i-preserved : goal.loop-i-preserved
loop-i-preserved g c = front_takes g.S.ByteScan.rest _ c.args.text.now c.loop-i.i c.loop-i.scan c.step.new.self _ c.loop-i.invariant c.loop-i-test.true c.step.ensures c.if-not-step.false

pub returns-then-end : goal.returns-then-end
returns-then-end g c = front_ends _ c.args.text.now _ c.loop-i.i c.loop-i.invariant (omega (arith, c.loop-i-test.false)) (c.end.ensures.0 c.if-end.true)

pub returns : goal.returns
returns g c = front_stops _ c.args.text.now _ c.loop-i.i c.loop-i.invariant (omega (arith, c.loop-i-test.false)) (λ h. let ended = c.end.ensures.1 h in let not_ended = c.if-end.false in cc)
