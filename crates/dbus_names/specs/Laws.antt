-- The calls that a table of names keeps are the open ones whose replies tell who has a name, and the
-- names by which connections are known are wanted. D-Bus Specification, "Message Bus Names".
use Rattle.std.specs.Prelude.{◌≡◌, ◌↔◌, ℕ, List, Bool, true, Some}
use Rattle.dbus_message_model.specs.Messages.{MessageTree}
use Rattle.dbus_rule_set.specs.Owners.{OwnerSet}
use Rattle.dbus_calls.specs.Events.{caller_of}
use Rattle.dbus_calls.specs.Pairing.{IsOpen}
use Rattle.dbus_names.specs.NameCalls.{NameCall}
use Rattle.dbus_names.specs.NameStates.{asked_by, known_after_all, known_first}

-- of this caller and serial some call is open after these messages, and it asks this of a name that
-- is wanted
abbrev pub IsAsked : (wants : List ℕ → Bool) (messages : List MessageTree) (caller : List ℕ) (serial : ℕ) (asked : NameCall) → Type 0
IsAsked wants messages caller serial asked = (call : MessageTree) × IsOpen (λ m. m) messages call × (caller ≡ caller_of call) × (serial ≡ call.serial) × (asked_by wants call ≡ Some asked)

abbrev pub KeepsOpenCalls : Type 0
KeepsOpenCalls = (wants : List ℕ → Bool) (owners : OwnerSet) (messages : List MessageTree) (caller : List ℕ) (serial : ℕ) (asked : NameCall) →
    ((known_after_all wants (known_first owners) messages).calls caller serial ≡ Some asked) ↔ IsAsked wants messages caller serial asked

-- a name by which a connection is known is wanted
abbrev pub KnowsWanted : Type 0
KnowsWanted = (wants : List ℕ → Bool) (owners : OwnerSet) (messages : List MessageTree) (unique name : List ℕ) → (known_after_all wants (known_first owners) messages).names unique ≡ Some name → wants name ≡ true
