-- What the header fields that are whole before a fault are of a message that is whole.
-- D-Bus Specification, "Header Fields".
use Rattle.std.specs.Prelude.{◌≡◌, ℕ, List, ◌++◌, min, take}
use Rattle.dbus_value_model.specs.declared.limits.Limits.{Limits}
use Rattle.dbus_value_model.specs.declared.order.Order.{Order}
use Rattle.dbus_message_model.specs.Messages.{FieldTree, IsMessage, MessageTree, message_bytes}
use Rattle.dbus_explain.specs.Heads.{AreWhole}
use Rattle.dbus_explain.specs.Places.{fields_end}

-- They are the first header fields of each message that has the same bytes up to the last one's end.
abbrev pub FirstFields : Type 0
FirstFields = (bytes : List ℕ) (at : ℕ) (fs : List FieldTree) (whole : AreWhole bytes (min at (fields_end bytes)) fs) (limits : Limits) (order : Order) (m : MessageTree)
    → IsMessage limits order m → take whole.end (message_bytes order m) ≡ take whole.end bytes → (more : List FieldTree) × (m.fields ≡ fs ++ more)
