use Rattle.std.proofs.Common.{arith}
use Rattle.dbus_validate.proofs.FieldTurns.{field_too_deep, field_unpadded, field_ended, field_zero, field_again, field_unheld, field_held}
use Rattle.dbus_validate.proofs.fields.validate_field.Goals as goal

pub returns-clause-field : goal.returns-clause-field
returns-clause-field c = λ before. (
  λ alone. field_held c.args.limits c.args.order c.args.end before c.args.at c.args.bytes.now c.if-limits-lt-FIELD_DEPTH.false c.in_ok-start.start c.in_ok-start.ensures.gives (omega (arith, c.in_ok-start.ensures.moves)) c.requires.inside c.in_ok-held.held c.in_ok-start.ensures.moves.0 (omega arith) alone c.in_ok-held.ensures.held,
  λ again. field_again c.args.limits c.args.order c.args.end before c.args.at c.args.bytes.now c.if-limits-lt-FIELD_DEPTH.false c.in_ok-start.start c.in_ok-start.ensures.gives (omega (arith, c.in_ok-start.ensures.moves)) c.requires.inside (omega arith) again,
)

pub returns-then-limits-lt-FIELD_DEPTH-clause-field : goal.returns-then-limits-lt-FIELD_DEPTH-clause-field
returns-then-limits-lt-FIELD_DEPTH-clause-field c = λ before. field_too_deep c.args.limits c.args.order c.args.end before c.args.at c.args.bytes.now c.if-limits-lt-FIELD_DEPTH.true

pub returns-in_err-start-clause-field : goal.returns-in_err-start-clause-field
returns-in_err-start-clause-field c = λ before. rw c.from_residual.ensures (field_unpadded c.args.limits c.args.order c.args.end before c.args.at c.args.bytes.now (c.padding.ensures.none c.in_err-start.was))

pub returns-then-start-end-clause-field : goal.returns-then-start-end-clause-field
returns-then-start-end-clause-field c = λ before. field_ended c.args.limits c.args.order c.args.end before c.args.at c.args.bytes.now c.if-limits-lt-FIELD_DEPTH.false c.in_ok-start.start c.in_ok-start.ensures.gives c.if-start-end.true

pub returns-then-code-eq0-clause-field : goal.returns-then-code-eq0-clause-field
returns-then-code-eq0-clause-field c = λ before. field_zero c.args.limits c.args.order c.args.end before c.args.at c.args.bytes.now c.if-limits-lt-FIELD_DEPTH.false c.in_ok-start.start c.in_ok-start.ensures.gives (omega (arith, c.in_ok-start.ensures.moves)) c.requires.inside c.if-code-eq0.true

pub returns-in_err-held-clause-field : goal.returns-in_err-held-clause-field
returns-in_err-held-clause-field c = λ before.
    rw c.from_residual-in_err-held.ensures (field_unheld c.args.limits c.args.order c.args.end before c.args.at c.args.bytes.now c.if-limits-lt-FIELD_DEPTH.false c.in_ok-start.start c.in_ok-start.ensures.gives (omega (arith, c.in_ok-start.ensures.moves)) c.requires.inside c.in_err-held.ensures.held)
