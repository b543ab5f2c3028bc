use Rattle.std.proofs.Common.{◌+◌, take, drop, arith, rules}
use Rattle.dbus_value_model.specs.Values.{TextValue}
use Rattle.dbus_value_model.specs.ValueItems.{text_row}
use Rattle.dbus_value_laws.proofs.ReadSteps.{text_fits}
use Rattle.dbus_value_validator.proofs.ItemSteps.{is_text, no_text_fits, text_unpadded, text_unmeasured, text_against, text_not_ended, text_done}
use Rattle.dbus_value_validator.proofs.texts.long_text.Goals as goal

pub returns-clause-gives : goal.returns-clause-gives
returns-clause-gives c = λ k e four.
    let run = is_text c.args.order c.args.end k c.args.kind 4 c.args.at (drop c.args.at c.args.bytes.now) e four in
    let first = c.in_ok-start.start + 4 in
    let n = c.in_ok-n.field-0 in
    let ended = c.is_ended_text.ensures.accepts (rw c.if-not-is_ended_text.false (search rules)) in (
      TextValue k (take n (drop first c.args.bytes.now)),
      text_done c.args.order c.args.end 4 (text_row c.args.end) c.args.kind k c.args.at c.args.bytes.now _ run c.in_ok-start.start c.in_ok-start.ensures.gives n c.in_ok-n.ensures.gives
          (text_fits c.args.end first n (omega (arith, c.in_ok-n.ensures.fits))) ended,
    )

pub returns-in_err-start-clause-gives : goal.returns-in_err-start-clause-gives
returns-in_err-start-clause-gives c = λ k e four.
    let run = is_text c.args.order c.args.end k c.args.kind 4 c.args.at (drop c.args.at c.args.bytes.now) e four in
    rw c.from_residual.ensures (text_unpadded c.args.order c.args.end 4 (text_row c.args.end) c.args.kind k c.args.at c.args.bytes.now _ run (c.padding.ensures.none c.in_err-start.was))

pub returns-in_err-n-clause-gives : goal.returns-in_err-n-clause-gives
returns-in_err-n-clause-gives c = λ k e four.
    let run = is_text c.args.order c.args.end k c.args.kind 4 c.args.at (drop c.args.at c.args.bytes.now) e four in
    rw c.from_residual-in_err-n.ensures (text_unmeasured c.args.order c.args.end 4 (text_row c.args.end) c.args.kind k c.args.at c.args.bytes.now _ run c.in_ok-start.start c.in_ok-start.ensures.gives (c.word.ensures.none c.in_err-n.was))

pub returns-then-end-first-clause-gives : goal.returns-then-end-first-clause-gives
returns-then-end-first-clause-gives c = λ k e four.
    let run = is_text c.args.order c.args.end k c.args.kind 4 c.args.at (drop c.args.at c.args.bytes.now) e four in
    text_against c.args.order c.args.end 4 (text_row c.args.end) c.args.kind k c.args.at c.args.bytes.now _ run c.in_ok-start.start c.in_ok-start.ensures.gives c.in_ok-n.field-0 c.in_ok-n.ensures.gives
    (no_text_fits c.args.end (c.in_ok-start.start + 4) c.in_ok-n.field-0 (omega (arith, c.if-end-first.true, c.in_ok-n.ensures.fits)))

pub returns-then-not-is_ended_text-clause-gives : goal.returns-then-not-is_ended_text-clause-gives
returns-then-not-is_ended_text-clause-gives c = λ k e four.
    let run = is_text c.args.order c.args.end k c.args.kind 4 c.args.at (drop c.args.at c.args.bytes.now) e four in
    text_not_ended c.args.order c.args.end 4 (text_row c.args.end) c.args.kind k c.args.at c.args.bytes.now _ run c.in_ok-start.start c.in_ok-start.ensures.gives c.in_ok-n.field-0 c.in_ok-n.ensures.gives
    (text_fits c.args.end (c.in_ok-start.start + 4) c.in_ok-n.field-0 (omega (arith, c.in_ok-n.ensures.fits))) (c.is_ended_text.ensures.refuses c.if-not-is_ended_text.true)
