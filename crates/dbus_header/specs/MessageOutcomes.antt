-- Trusted by the headline.
-- The three outcomes of bytes under limits: they begin with a message, or are refused, or neither.
-- D-Bus Specification, "Message Protocol".
use Rattle.std.specs.Prelude.{◌≡◌, ℕ, List, ◌++◌, length}
use Rattle.dbus_value_model.specs.declared.limits.Limits.{Limits}
use Rattle.dbus_value_model.specs.declared.order.Order.{Order}
use Rattle.dbus_value_model.specs.declared.fault.Fault.{Fault}
use Rattle.dbus_message_model.specs.Messages.{MessageTree, message_bytes, IsMessage}
use Rattle.dbus_header.specs.MessageItems.{message_items}

-- the bytes begin with those of a message, which is valid within the limits, and has n bytes
unfoldable pub IsWhole : Limits → List ℕ → Order → MessageTree → ℕ → Type 0
IsWhole limits b order m n = IsMessage limits order m × ((rest : List ℕ) × (b ≡ message_bytes order m ++ rest)) × (n ≡ length (message_bytes order m))

-- the first item that is not passed shows the fault
unfoldable pub IsRefused : Limits → List ℕ → Fault → Type 0
IsRefused limits b f = (message_items limits).Refused 0 b f

-- neither
unfoldable pub IsPartial : Limits → List ℕ → Type 0
IsPartial limits b = ((order : Order) (m : MessageTree) (n : ℕ) → IsWhole limits b order m n → ⊥) × ((f : Fault) → IsRefused limits b f → ⊥)
