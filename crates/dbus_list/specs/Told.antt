-- What the line of a message tells beside what the message says. D-Bus Specification, "Message
-- Types" ("Method Calls") and "Message Bus Names".
use Rattle.std.specs.Prelude.{ℕ, List, Option, option_map}
use Rattle.dbus_list.specs.Pairs.{ToldCall, call_seen}
use Rattle.dbus_list.specs.declared.beside.Beside.{Beside}

-- the call that it answers, and the names by which its sender and its destination are known
pub record Told : Type 0 where
  pub answered : Option ToldCall
  pub sender : Option (List ℕ)
  pub destination : Option (List ℕ)

-- what the code says of it
abbrev pub told_seen : Beside → Told
told_seen b = record { answered = option_map call_seen b.answered; sender = option_map (λ name. name.now) b.sender; destination = option_map (λ name. name.now) b.destination }
