-- Which JSON spells a message type.
-- RFC 8259, sections 6 and 7, of the D-Bus Specification, "Message Format".
use Rattle.std.specs.Prelude.{◌≡◌, ◌⊎◌, ℕ, List, Some, decimal}
use Rattle.json.specs.Json.{Json, number, string}
use Rattle.dbus_message_model.specs.MessageTypes.{type_name}

-- A message type is its number, or its name if it has one: `json` writes the name then.
abbrev pub SpellsKind : (kind : ℕ) → Json → Type 0
SpellsKind kind j = (j ≡ number (decimal kind)) ⊎ ((name : List ℕ) × (type_name kind ≡ Some name) × (j ≡ string name))
