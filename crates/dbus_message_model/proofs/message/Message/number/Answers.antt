use Rattle.dbus_message_model.specs.MessageViews.{message_tree}
use Rattle.dbus_message_model.proofs.KnownValues.{number_not_there}
use Rattle.dbus_message_model.proofs.message.Message.number.Goals as goal

pub returns-in_default : goal.returns-in_default
returns-in_default g c =
    let m = c.args.self.now in
    absurd (number_not_there c.args.code (message_tree m) m.valid c.in_ok-number.field-0.now c.in_ok-number.ensures.first c.requires c.in_default.not-U32)
