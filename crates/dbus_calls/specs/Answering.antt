-- Who may answer a call. D-Bus Specification, "Method Calls", "Header Fields" (DESTINATION,
-- SENDER) and "Message Bus Names".
use Rattle.std.specs.Prelude.{ℕ, List, [], ◌∷◌, ◌==◌, Bool, true, false, ◌&&◌, not, Option, None, Some, codes, ◌||◌}
use Rattle.std.specs.Str.{bytes_eq}
use Rattle.dbus_texts.specs.Characters.{colon}

-- the name of the bus itself
abbrev pub bus : List ℕ
bus = codes "org.freedesktop.DBus"

abbrev pub is_unique : List ℕ → Bool
is_unique [] = false
is_unique (c ∷ cs) = c == colon

-- some connection may have this name: it is well-known, and not the bus's own
abbrev pub is_ownable : List ℕ → Bool
is_ownable name = not (is_unique name) && not (bytes_eq name bus)

-- A message of this sender may answer a call to this destination, as far as their names say. The
-- bus may answer each call: it does so if nobody has the destination's name, or nobody replies. If
-- the destination is a well-known name, any sender may, since the names do not say who has it. A
-- message without a sender, or a call without a destination, did not pass a bus.
abbrev pub may_answer : (destination sender : Option (List ℕ)) → Bool
may_answer destination None = true
may_answer None (Some sender) = true
may_answer (Some destination) (Some sender) = bytes_eq sender bus || (bytes_eq sender destination || is_ownable destination)
