use Rattle.std.proofs.Common.{sym, ap, ◌∙◌}
use Rattle.dbus_message_model.specs.KnownFields.{field_value}
use Rattle.dbus_message_model.specs.Messages.{MessageTree}
use Rattle.dbus_view.proofs.KnownFields.{number_there, no_number}
use Rattle.dbus_view.proofs.Whole.{same}
use Rattle.dbus_view.proofs.view.MessageView.reply_serial.Goals as goal

pub returns-in_err-place : goal.returns-in_err-place
returns-in_err-place c = λ order m w.
    let v = c.self.inside in
    let both = same v.limits v.bytes.now v.validated c.self.invariant c.args.self.now c.self.view_is order m w in
    let none = no_number v.limits v.bytes.now v.validated c.self.invariant (sym c.in_err-place.was ∙ c.get.ensures) in
    rw c.from_residual.ensures (ap (λ (u : MessageTree). field_value 5 u.fields) (sym both.1) ∙ none)

pub returns : goal.returns
returns c = λ order m w.
    let v = c.self.inside in
    let both = same v.limits v.bytes.now v.validated c.self.invariant c.args.self.now c.self.view_is order m w in
    let there = number_there v.limits v.bytes.now v.validated c.self.invariant c.in_ok-place.place (sym c.in_ok-place.was ∙ c.get.ensures) in
    ap (λ (u : MessageTree). field_value 5 u.fields) (sym both.1) ∙ there
