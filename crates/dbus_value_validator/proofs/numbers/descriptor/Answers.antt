use Rattle.std.proofs.Common.{◌+◌, drop, refl}
use Rattle.dbus_texts.specs.Types.{UNIX_FD}
use Rattle.dbus_value_model.specs.Values.{NumberValue}
use Rattle.dbus_value_model.specs.ValueItems.{number_row}
use Rattle.dbus_value_validator.proofs.ItemSteps.{is_number, number_unpadded, number_unread, number_ends, number_against, is_index, no_index}
use Rattle.dbus_value_validator.proofs.numbers.descriptor.Goals.{in-Some+else-n-limit, in_default}
use Rattle.dbus_value_validator.proofs.numbers.descriptor.Goals as goal

pub returns-clause-gives : goal.returns-clause-gives
returns-clause-gives c =
    let run = is_number c.args.index_limit c.args.order c.args.end UNIX_FD 4 c.args.at (drop c.args.at c.args.bytes.now) refl in (
      NumberValue UNIX_FD c.in_ok-n.n,
      number_ends c.args.order c.args.end 4 (number_row c.args.index_limit UNIX_FD) UNIX_FD c.args.at c.args.bytes.now _ run c.in_ok-start.start c.in_ok-start.ensures.gives c.in_ok-n.n c.in_ok-n.ensures.gives
          (elim c.match-index_limit.branch [
            | in-Some+else-n-limit w ↦ is_index c.args.index_limit (c.in_ok-start.start + 4) c.in_ok-n.n w.in-Some.limit w.in-Some.is w.if-n-limit.false
            | in_default w ↦ rw w.in_default.is refl
          ]),
    )

pub returns-in_err-start-clause-gives : goal.returns-in_err-start-clause-gives
returns-in_err-start-clause-gives c =
    let run = is_number c.args.index_limit c.args.order c.args.end UNIX_FD 4 c.args.at (drop c.args.at c.args.bytes.now) refl in
    rw c.from_residual.ensures (number_unpadded c.args.order c.args.end 4 (number_row c.args.index_limit UNIX_FD) UNIX_FD c.args.at c.args.bytes.now _ run (c.padding.ensures.none c.in_err-start.was))

pub returns-in_err-n-clause-gives : goal.returns-in_err-n-clause-gives
returns-in_err-n-clause-gives c =
    let run = is_number c.args.index_limit c.args.order c.args.end UNIX_FD 4 c.args.at (drop c.args.at c.args.bytes.now) refl in
    rw c.from_residual-in_err-n.ensures (number_unread c.args.order c.args.end 4 (number_row c.args.index_limit UNIX_FD) UNIX_FD c.args.at c.args.bytes.now _ run c.in_ok-start.start c.in_ok-start.ensures.gives (c.word.ensures.none c.in_err-n.was))

pub returns-then-n-limit-clause-gives : goal.returns-then-n-limit-clause-gives
returns-then-n-limit-clause-gives c =
    let run = is_number c.args.index_limit c.args.order c.args.end UNIX_FD 4 c.args.at (drop c.args.at c.args.bytes.now) refl in
    number_against c.args.order c.args.end 4 (number_row c.args.index_limit UNIX_FD) UNIX_FD c.args.at c.args.bytes.now _ run c.in_ok-start.start c.in_ok-start.ensures.gives c.in_ok-n.n c.in_ok-n.ensures.gives
    (no_index c.args.index_limit (c.in_ok-start.start + 4) c.in_ok-n.n c.in-Some.limit c.in-Some.is c.if-n-limit.true)
