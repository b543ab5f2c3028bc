use Rattle.dbus_message_model.specs.MessageViews.{message_tree}
use Rattle.dbus_message_model.proofs.KnownValues.{text_there, text_not_there}
use Rattle.dbus_message_model.proofs.message.Message.text.Goals as goal

pub returns-in_default : goal.returns-in_default
returns-in_default g c =
    let m = c.args.self.now in
    absurd (text_not_there c.args.code (message_tree m) m.valid c.in_ok-text.field-0.now c.in_ok-text.ensures.first c.requires c.in_default.not-Str c.in_default.not-Path c.in_default.not-Sig)

pub returns-in-Str : goal.returns-in-Str
returns-in-Str g c =
    let m = c.args.self.now in
    rw c.deref.ensures (text_there c.args.code (message_tree m) m.valid c.in_ok-text.field-0.now c.in_ok-text.ensures.first c.in-Str.text c.requires c.in-Str.is)
