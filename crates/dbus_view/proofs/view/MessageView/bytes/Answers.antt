use Rattle.dbus_view.proofs.Whole.{views_one}
use Rattle.dbus_view.proofs.view.MessageView.bytes.Goals as goal

pub returns-clause-one : goal.returns-clause-one
returns-clause-one c = views_one c.self.inside.limits c.self.inside.bytes.now c.self.inside.validated c.self.invariant c.args.self.now c.self.view_is
