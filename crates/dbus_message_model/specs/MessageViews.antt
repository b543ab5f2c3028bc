-- Trusted by the headline.
-- The tree that a `Message` stands for.
-- D-Bus Specification, "Message Format".
use Rattle.dbus_message_model.specs.Messages.{MessageTree}
use Rattle.dbus_message_model.specs.PartsViews.{parts_tree}
use Rattle.dbus_message_model.specs.declared.message.Message.{Message}

abbrev pub message_tree : {A : Type 0} → Message A → MessageTree
message_tree m = parts_tree m.parts
