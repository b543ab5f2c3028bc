use Rattle.std.proofs.Common.{◌+◌, take, drop, refl, arith}
use Rattle.dbus_value_model.specs.Reading.{number_of}
use Rattle.dbus_value_model.specs.Values.{NumberValue}
use Rattle.dbus_value_model.specs.ValueItems.{number_row}
use Rattle.dbus_value_validator.proofs.ItemSteps.{is_number, number_unpadded, number_short, free_ends}
use Rattle.dbus_value_validator.proofs.numbers.free_number.Goals as goal

pub returns-clause-gives : goal.returns-clause-gives
returns-clause-gives c = λ index_limit order k e free.
    let run = is_number index_limit order c.args.end k c.args.size c.args.at (drop c.args.at c.args.bytes.now) e in
    let start = c.in_ok-start.start in
    let n = number_of order (take c.args.size (drop start c.args.bytes.now)) in
    rw c.from-size.ensures (NumberValue k n, free_ends order c.args.end c.args.size (number_row index_limit k) k c.args.at c.args.bytes.now _ run start c.in_ok-start.ensures.gives n (omega (arith, c.in_ok-start.ensures.moves)) c.requires.inside refl (free (start + c.args.size) n))

pub returns-in_err-start-clause-gives : goal.returns-in_err-start-clause-gives
returns-in_err-start-clause-gives c = λ index_limit order k e free.
    let run = is_number index_limit order c.args.end k c.args.size c.args.at (drop c.args.at c.args.bytes.now) e in
    rw c.from_residual.ensures (number_unpadded order c.args.end c.args.size (number_row index_limit k) k c.args.at c.args.bytes.now _ run (c.padding.ensures.none c.in_err-start.was))

pub returns-then-end-start-clause-gives : goal.returns-then-end-start-clause-gives
returns-then-end-start-clause-gives c = λ index_limit order k e free.
    let run = is_number index_limit order c.args.end k c.args.size c.args.at (drop c.args.at c.args.bytes.now) e in
    number_short order c.args.end c.args.size (number_row index_limit k) k c.args.at c.args.bytes.now _ run c.in_ok-start.start c.in_ok-start.ensures.gives (omega (arith, c.if-end-start.true, c.from-size.ensures, c.in_ok-start.ensures.moves))
