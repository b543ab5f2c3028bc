use Rattle.std.proofs.Common.{arith}
use Rattle.dbus_validate.proofs.HeldSteps.{letter_read, letter_unread}
use Rattle.dbus_validate.proofs.field_values.letter.Goals as goal

pub returns-clause-gives : goal.returns-clause-gives
returns-clause-gives c = λ order. letter_read order c.args.end c.args.at c.args.wanted c.args.bytes.now c.requires.inside (omega arith) c.if-bytes-at-ne1.false c.if-bytes-at.false c.if-bytes-at-ne0.false

pub returns-then-end-at-lt3-clause-none : goal.returns-then-end-at-lt3-clause-none
returns-then-end-at-lt3-clause-none c = λ none order. letter_unread order c.args.end c.args.at c.args.wanted c.args.bytes.now c.requires.inside (λ fits. absurd (omega (arith, fits, c.if-end-at-lt3.true)))

pub returns-then-bytes-at-ne1-clause-none : goal.returns-then-bytes-at-ne1-clause-none
returns-then-bytes-at-ne1-clause-none c = λ none order. letter_unread order c.args.end c.args.at c.args.wanted c.args.bytes.now c.requires.inside (λ fits one there ended. c.if-bytes-at-ne1.true one)

pub returns-then-bytes-at-clause-none : goal.returns-then-bytes-at-clause-none
returns-then-bytes-at-clause-none c = λ none order. letter_unread order c.args.end c.args.at c.args.wanted c.args.bytes.now c.requires.inside (λ fits one there ended. c.if-bytes-at.true there)

pub returns-then-bytes-at-ne0-clause-none : goal.returns-then-bytes-at-ne0-clause-none
returns-then-bytes-at-ne0-clause-none c = λ none order. letter_unread order c.args.end c.args.at c.args.wanted c.args.bytes.now c.requires.inside (λ fits one there ended. c.if-bytes-at-ne0.true ended)
