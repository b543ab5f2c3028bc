use Rattle.std.proofs.Common.{arith}
use Rattle.dbus_value_model.specs.ValueItems.{text_row}
use Rattle.dbus_value_checker.proofs.FrontSteps.{lacks_number, length_there, length_past}
use Rattle.dbus_value_checker.proofs.fronts.short_length_front.Goals as goal

pub returns-in-Err-clause-gives : goal.returns-in-Err-clause-gives
returns-in-Err-clause-gives c = λ order. lacks_number order 1 c.args.end (text_row c.args.end) c.args.offset c.args.bytes.now c.in-Err.stop c.in-Err.ensures

pub returns-then-end-offset-clause-gives : goal.returns-then-end-offset-clause-gives
returns-then-end-offset-clause-gives c = λ order.
    let h = c.in-Ok.ensures in let low = h.1 in
    rw c.refuse.ensures (length_past order 1 c.args.end c.args.offset c.args.bytes.now c.in-Ok.n h.0 (h.2 order) low (omega arith))

pub returns-clause-gives : goal.returns-clause-gives
returns-clause-gives c = λ order.
    let h = c.in-Ok.ensures in let low = h.1 in
    length_there order 1 c.args.end c.args.offset c.args.bytes.now c.in-Ok.n h.0 (h.2 order) (omega arith)
