use Rattle.std.proofs.Common.{arith}
use Rattle.dbus_value_validator.proofs.ItemSteps.{frame_unmeasured, frame_unpadded, frame_against, frame_ends}
use Rattle.dbus_value_validator.proofs.arrays.frame.Goals as goal

pub returns-clause-gives : goal.returns-clause-gives
returns-clause-gives c = λ t e. frame_ends c.args.bounds c.args.order c.args.end t c.args.at c.args.bytes.now c.in_ok-n.n c.in_ok-n.ensures.gives c.args.boundary c.in_ok-first.first e c.if-n-bounds.false c.in_ok-first.ensures.moves.0
    (omega (arith, c.in_ok-first.ensures.moves)) c.in_ok-first.ensures.gives

pub returns-in_err-n-clause-none : goal.returns-in_err-n-clause-none
returns-in_err-n-clause-none c = λ none t e. frame_unmeasured c.args.bounds c.args.order c.args.end t c.args.at c.args.bytes.now (c.word.ensures.none c.in_err-n.was)

pub returns-then-n-bounds-clause-none : goal.returns-then-n-bounds-clause-none
returns-then-n-bounds-clause-none c = λ none t e. frame_against c.args.bounds c.args.order c.args.end t c.args.at c.args.bytes.now c.in_ok-n.n c.in_ok-n.ensures.gives (λ few fits. absurd (omega (arith, few, c.if-n-bounds.true)))

pub returns-in_err-first-clause-none : goal.returns-in_err-first-clause-none
returns-in_err-first-clause-none c = λ none t e. frame_unpadded c.args.bounds c.args.order c.args.end t c.args.at c.args.bytes.now c.args.boundary e (c.padding.ensures.none c.in_err-first.was)

pub returns-then-end-first-clause-none : goal.returns-then-end-first-clause-none
returns-then-end-first-clause-none c = λ none t e.
    frame_against c.args.bounds c.args.order c.args.end t c.args.at c.args.bytes.now c.in_ok-n.n c.in_ok-n.ensures.gives (λ few. rw (← e) (λ fits. absurd (omega (arith, fits, c.if-end-first.true, c.in_ok-first.ensures.moves))))
