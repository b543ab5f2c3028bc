-- The items of a message that have fixed places, with 0 for the two lengths.
-- D-Bus Specification, "Message Format".
use Rattle.std.specs.Prelude.{ℕ, List, ◌∷◌, ◌++◌}
use Rattle.dbus_value_model.specs.declared.order.Order.{Order}
use Rattle.dbus_value_model.specs.Bytes.{num}
use Rattle.dbus_message_model.specs.Messages.{order_byte}

unfoldable pub fixed_bytes : Order → ℕ → ℕ → ℕ → List ℕ
fixed_bytes order kind flags serial = order_byte order ∷ (kind ∷ (flags ∷ (1 ∷ (num order 4 0 ++ (num order 4 serial ++ num order 4 0)))))
