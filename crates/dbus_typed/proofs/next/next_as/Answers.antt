use Rattle.dbus_typed.proofs.Nexts.{none_next, next_typed}
use Rattle.dbus_typed.proofs.next.next_as.Goals as goal

pub returns-in_err-next : goal.returns-in_err-next
returns-in_err-next g c = λ xs rest l.
    rw c.from_residual.ensures (none_next g.T.FromValue.stands_for xs (c.in_err-next.ensures.steps.first xs rest l).0)

pub returns : goal.returns
returns g c = λ xs rest l.
    let first = c.in_ok-next.ensures.steps.first xs rest l in
    next_typed g.T.FromValue.stands_for g.T.FromValue.tree c.from_value.result first.0 xs first.1 rest c.next.new.self first.2 first.4 (c.from_value.ensures.read first.0 first.3)
