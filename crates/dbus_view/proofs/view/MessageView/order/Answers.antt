use Rattle.dbus_view.proofs.Whole.{same}
use Rattle.dbus_view.proofs.view.MessageView.order.Goals as goal

pub returns : goal.returns
returns c = λ order m w. (same c.self.inside.limits c.self.inside.bytes.now c.self.inside.validated c.self.invariant c.args.self.now c.self.view_is order m w).0
