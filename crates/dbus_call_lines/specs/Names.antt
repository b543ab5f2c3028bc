-- The names by which the connections of a message are known. D-Bus Specification, "Message Bus Names".
use Rattle.std.specs.Prelude.{ℕ, List, Option, None, option_map}
use Rattle.dbus_call_lines.specs.declared.call_names.CallNames.{CallNames}

-- of its SENDER, and of its DESTINATION
pub record Known : Type 0 where
  pub sender : Option (List ℕ)
  pub destination : Option (List ℕ)

-- none is known
abbrev pub unnamed : Known
unnamed = record { sender = None; destination = None }

-- what the code says of them
abbrev pub names_seen : CallNames → Known
names_seen names = record { sender = option_map (λ t. t.now) names.sender; destination = option_map (λ t. t.now) names.destination }
