use Rattle.std.proofs.Common.{◌+◌, ◌-◌, arith}
use Rattle.dbus_message_model.specs.Messages.{Anything}
use Rattle.dbus_value_validator.proofs.ReadParts.{not_same}
use Rattle.dbus_value_validator.proofs.ItemSteps.{value_read, value_spelled}
use Rattle.dbus_validate.proofs.HeldSteps.{unsigned, single_unread, is_any}
use Rattle.dbus_validate.proofs.field_values.anything.Goals as goal

pub returns-clause-held : goal.returns-clause-held
returns-clause-held c =
    let first = c.args.at + 1 in
    let n = c.in_ok-n.n in
    let w = is_any c.args.limits c.args.order c.args.end c.args.at c.args.bytes.now n (first + n - first) (c.in_ok-n.ensures.measures c.args.order) c.in_ok-n.ensures.text (omega arith) in
    let read = value_read c.bounds.result c.args.order (c.args.limits.depth - 3) c.args.end (first + n + 1) c.args.bytes.now (λ i. omega (arith, c.type_inv.bytes i)) w.0 w.2 c.in_ok-after.after (c.in_ok-after.ensures.spelled w.0 w.1 w.2) in
    (read.0, rw (w.3, ← c.bounds.ensures) read.1, tt, λ known. absurd cc)

pub returns-in_err-n-clause-held : goal.returns-in_err-n-clause-held
returns-in_err-n-clause-held c = rw c.from_residual.ensures (unsigned c.args.limits c.args.order c.args.end c.args.at c.args.bytes.now Anything (single_unread c.args.order c.args.end c.args.at c.args.bytes.now (c.short_text.ensures.none c.in_err-n.was c.args.order)))

pub returns-in_err-after-clause-held : goal.returns-in_err-after-clause-held
returns-in_err-after-clause-held c =
    let first = c.args.at + 1 in
    let n = c.in_ok-n.n in
    let w = is_any c.args.limits c.args.order c.args.end c.args.at c.args.bytes.now n (first + n - first) (c.in_ok-n.ensures.measures c.args.order) c.in_ok-n.ensures.text (omega arith) in
    rw c.from_residual-in_err-after.ensures (not_same _ _ w.3 (rw (← c.bounds.ensures) (λ v q rest e.
    c.validate_value.ensures.none c.in_err-after.was w.0 w.1 w.2 q (v, value_spelled c.bounds.result c.args.order (c.args.limits.depth - 3) c.args.end (first + n + 1) c.args.bytes.now (λ i. omega (arith, c.type_inv.bytes i)) w.0 w.2 v q rest e))))
