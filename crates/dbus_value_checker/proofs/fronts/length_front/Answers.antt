use Rattle.std.proofs.Common.{arith}
use Rattle.dbus_value_model.specs.ValueItems.{text_row}
use Rattle.dbus_value_checker.proofs.FrontSteps.{lacks_number, length_there, length_past, short_width, long_width}
use Rattle.dbus_value_checker.proofs.fronts.length_front.Goals as goal

pub returns-in-Ok-clause-gives : goal.returns-in-Ok-clause-gives
returns-in-Ok-clause-gives c = λ k e. rw (short_width k c.args.code e c.if-code-eq103.true) (c.in-Ok.ensures.gives c.args.order)

pub returns-in-Err-clause-gives : goal.returns-in-Err-clause-gives
returns-in-Err-clause-gives c = λ k e. rw (short_width k c.args.code e c.if-code-eq103.true) (c.in-Err.ensures.gives c.args.order)

pub returns-then-end-offset-clause-gives : goal.returns-then-end-offset-clause-gives
returns-then-end-offset-clause-gives c = λ k e.
    let h = c.in-Ok-word.ensures in let low = h.1 in
    rw (c.refuse.ensures, long_width k c.args.code e c.if-code-eq103.false) (length_past c.args.order 4 c.args.end c.args.offset c.args.bytes.now c.in-Ok-word.n h.0 h.2 low (omega arith))

pub returns-else-end-offset-clause-gives : goal.returns-else-end-offset-clause-gives
returns-else-end-offset-clause-gives c = λ k e.
    let h = c.in-Ok-word.ensures in let low = h.1 in
    rw (long_width k c.args.code e c.if-code-eq103.false) (length_there c.args.order 4 c.args.end c.args.offset c.args.bytes.now c.in-Ok-word.n h.0 h.2 (omega arith))

pub returns-in-Err-word-clause-gives : goal.returns-in-Err-word-clause-gives
returns-in-Err-word-clause-gives c = λ k e. rw (long_width k c.args.code e c.if-code-eq103.false) (lacks_number c.args.order 4 c.args.end (text_row c.args.end) c.args.offset c.args.bytes.now c.in-Err-word.stop c.in-Err-word.ensures)
