use Rattle.std.proofs.Common.{◌+◌, drop, refl, arith}
use Rattle.dbus_texts.specs.Types.{BOOLEAN}
use Rattle.dbus_value_model.specs.Values.{NumberValue}
use Rattle.dbus_value_model.specs.ValueItems.{number_row}
use Rattle.dbus_value_validator.proofs.ItemSteps.{is_number, number_unpadded, number_unread, number_ends, number_against, is_boolean, no_boolean}
use Rattle.dbus_value_validator.proofs.numbers.boolean.Goals as goal

pub returns-clause-gives : goal.returns-clause-gives
returns-clause-gives c = λ index_limit.
    let run = is_number index_limit c.args.order c.args.end BOOLEAN 4 c.args.at (drop c.args.at c.args.bytes.now) refl in (
      NumberValue BOOLEAN c.in_ok-n.n,
      number_ends c.args.order c.args.end 4 (number_row index_limit BOOLEAN) BOOLEAN c.args.at c.args.bytes.now _ run c.in_ok-start.start c.in_ok-start.ensures.gives c.in_ok-n.n c.in_ok-n.ensures.gives
          (is_boolean index_limit (c.in_ok-start.start + 4) c.in_ok-n.n (omega arith)),
    )

pub returns-in_err-start-clause-gives : goal.returns-in_err-start-clause-gives
returns-in_err-start-clause-gives c = λ index_limit.
    let run = is_number index_limit c.args.order c.args.end BOOLEAN 4 c.args.at (drop c.args.at c.args.bytes.now) refl in
    rw c.from_residual.ensures (number_unpadded c.args.order c.args.end 4 (number_row index_limit BOOLEAN) BOOLEAN c.args.at c.args.bytes.now _ run (c.padding.ensures.none c.in_err-start.was))

pub returns-in_err-n-clause-gives : goal.returns-in_err-n-clause-gives
returns-in_err-n-clause-gives c = λ index_limit.
    let run = is_number index_limit c.args.order c.args.end BOOLEAN 4 c.args.at (drop c.args.at c.args.bytes.now) refl in
    rw c.from_residual-in_err-n.ensures (number_unread c.args.order c.args.end 4 (number_row index_limit BOOLEAN) BOOLEAN c.args.at c.args.bytes.now _ run c.in_ok-start.start c.in_ok-start.ensures.gives (c.word.ensures.none c.in_err-n.was))

pub returns-then-n-gt1-clause-gives : goal.returns-then-n-gt1-clause-gives
returns-then-n-gt1-clause-gives c = λ index_limit.
    let run = is_number index_limit c.args.order c.args.end BOOLEAN 4 c.args.at (drop c.args.at c.args.bytes.now) refl in
    number_against c.args.order c.args.end 4 (number_row index_limit BOOLEAN) BOOLEAN c.args.at c.args.bytes.now _ run c.in_ok-start.start c.in_ok-start.ensures.gives c.in_ok-n.n c.in_ok-n.ensures.gives
    (no_boolean index_limit (c.in_ok-start.start + 4) c.in_ok-n.n c.if-n-gt1.true)
