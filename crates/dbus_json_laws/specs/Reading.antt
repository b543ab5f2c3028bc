-- JSON that is read back.
-- RFC 8259, of the values and the messages of the D-Bus Specification, "Type System" and "Message
-- Format".
use Rattle.std.specs.Prelude.{◌≡◌, ◌⊎◌, ℕ, List}
use Rattle.json.specs.Json.{Json, number, string}
use Rattle.dbus_texts.specs.Types.{TypeTree}
use Rattle.dbus_value_model.specs.Values.{ValueTree}
use Rattle.dbus_value_model.specs.declared.limits.Limits.{Limits}
use Rattle.dbus_value_model.specs.declared.order.Order.{Order}
use Rattle.dbus_message_model.specs.Messages.{MessageTree}
use Rattle.dbus_json.specs.declared.integers.Integers.{Integers}
use Rattle.dbus_json.specs.JsonValues.{IsDouble, plain}
use Rattle.dbus_json_reader.specs.JsonMessages.{IsReadMessage}
use Rattle.dbus_json_reader.specs.JsonNumbers.{SpellsDouble}
use Rattle.dbus_json_reader.specs.JsonValues.{IsRead}

-- No JSON spells two values of one type.
abbrev pub IsOneValueEach : Type 0
IsOneValueEach = (integers : Integers) (depth other : ℕ) (t : TypeTree) (x y : ValueTree) (j : Json) → IsRead integers depth t x j → IsRead integers other t y j → x ≡ y

-- No JSON spells two messages, whatever the limits, nor one message in two orders, if the serial of
-- a message with no serial is one.
abbrev pub IsOneMessageEach : Type 0
IsOneMessageEach = (integers : Integers) (limits bounds : Limits) (number : ℕ) (order other : Order) (m w : MessageTree) (j : Json) → IsReadMessage integers limits number order m j → IsReadMessage integers bounds number other w j → (order ≡ other) × (m ≡ w)

-- What `json` writes of a DOUBLE is a number that spells it, or, within quotation marks, digits that
-- spell it as a string.
abbrev pub IsDoubleKept : Type 0
IsDoubleKept = (bits : ℕ) (text : List ℕ) → IsDouble bits text → SpellsDouble bits (number text) ⊎ ((digits : List ℕ) × (text ≡ plain digits) × SpellsDouble bits (string digits))
