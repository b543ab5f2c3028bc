-- Where an array of bytes is `Bytes` in a message: the one thing of its values that its tree does
-- not show. D-Bus Specification, "Marshaling (Wire Format)".
use Rattle.dbus_message_model.specs.declared.message.Message.{Message}
use Rattle.dbus_message_model.specs.PackedParts.{PartsKeepBytes}

abbrev pub MessageKeepsBytes : {A : Type 0} → Message A → Type 0
MessageKeepsBytes m = PartsKeepBytes m.parts
