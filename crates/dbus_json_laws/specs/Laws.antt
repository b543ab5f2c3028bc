-- No two messages have one line of JSON.
-- RFC 8259, of the messages of the D-Bus Specification, "Message Format" and "Header Fields".
use Rattle.std.specs.Prelude.{◌≡◌, ℕ, List}
use Rattle.dbus_value_model.specs.declared.limits.Limits.{Limits}
use Rattle.dbus_value_model.specs.declared.order.Order.{Order}
use Rattle.dbus_message_model.specs.Messages.{MessageTree, IsMessage}
use Rattle.dbus_json.specs.declared.integers.Integers.{Integers}
use Rattle.dbus_json.specs.declared.place.LinePlace.{LinePlace}
use Rattle.dbus_json.specs.JsonMessages.{IsJsonLine}

-- Messages that have one line are one message in one order, whatever the line says of where it
-- stands: its order, its header and its body.
abbrev pub IsOneMessageALine : Type 0
IsOneMessageALine = (integers : Integers) (limits bounds : Limits) (order other : Order) (m w : MessageTree) (place at : LinePlace) (text : List ℕ) → IsMessage limits order m → IsMessage bounds other w
    → IsJsonLine integers order m place text → IsJsonLine integers other w at text → (order ≡ other) × (m ≡ w)
