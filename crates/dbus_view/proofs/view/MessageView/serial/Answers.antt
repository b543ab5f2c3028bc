use Rattle.std.proofs.Common.{◌∙◌, sym, ap}
use Rattle.dbus_message_model.specs.Messages.{MessageTree}
use Rattle.dbus_view.proofs.Whole.{same}
use Rattle.dbus_view.proofs.view.MessageView.serial.Goals as goal

pub returns : goal.returns
returns c = λ order m w.
    let both = same c.self.inside.limits c.self.inside.bytes.now c.self.inside.validated c.self.invariant c.args.self.now c.self.view_is order m w in
    sym c.self.invariant.validated.parts.2 ∙ ap (λ (u : MessageTree). u.serial) both.1
