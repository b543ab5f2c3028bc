-- The laws of messages and of the three outcomes.
-- D-Bus Specification, "Message Protocol".
use Rattle.std.specs.Prelude.{◌≡◌, ℕ, ◌↔◌, ◌⊎◌, List, ◌++◌, length}
use Rattle.dbus_value_model.specs.declared.order.Order.{Order}
use Rattle.dbus_value_model.specs.declared.order.Order.TheVariants.{Little, Big}
use Rattle.dbus_value_model.specs.declared.fault.Fault.{Fault}
use Rattle.dbus_value_model.specs.ByteNumbers.{IsBytes}
use Rattle.dbus_value_model.specs.Reading.{Done, Faulty}
use Rattle.dbus_value_model.specs.declared.limits.Limits.{Limits}
use Rattle.dbus_message_model.specs.Messages.{MessageTree, message_bytes, IsMessage, IsValidMessage}
use Rattle.dbus_message_model.specs.KeptLimits.{AreWider}
use Rattle.dbus_header.specs.HeaderReading.{message_read}
use Rattle.dbus_header.specs.MessageOutcomes.{IsWhole, IsRefused, IsPartial}

-- No message's bytes begin another's, and bytes spell at most one message in at most one order.
abbrev pub OneMessage : Type 0
OneMessage = (limits : Limits) (order other : Order) (m n : MessageTree) (x y : List ℕ) → IsValidMessage limits m → IsValidMessage limits n
    → message_bytes order m ++ x ≡ message_bytes other n ++ y → (order ≡ other) × (m ≡ n) × (x ≡ y)

-- Both orders spell a message in as many bytes.
abbrev pub OneLength : Type 0
OneLength = (m : MessageTree) → length (message_bytes Little m) ≡ length (message_bytes Big m)

-- Every list of bytes is whole, refused or partial.
abbrev pub SomeOutcome : Type 0
SomeOutcome = (limits : Limits) (b : List ℕ) → IsBytes b → ((order : Order) × (m : MessageTree) × (n : ℕ) × IsWhole limits b order m n) ⊎ (((f : Fault) × IsRefused limits b f) ⊎ IsPartial limits b)

-- Nothing is two of these.
abbrev pub OneOutcome : Type 0
OneOutcome = (limits : Limits) (b : List ℕ)
    → ((order : Order) (m : MessageTree) (n : ℕ) (f : Fault) → IsWhole limits b order m n → IsRefused limits b f → ⊥)
    × ((order : Order) (m : MessageTree) (n : ℕ) → IsWhole limits b order m n → IsPartial limits b → ⊥)
    × ((f : Fault) → IsRefused limits b f → IsPartial limits b → ⊥)

-- Bytes begin with at most one message.
abbrev pub OneWhole : Type 0
OneWhole = (limits : Limits) (b : List ℕ) (order other : Order) (m n : MessageTree) (i j : ℕ) → IsWhole limits b order m i → IsWhole limits b other n j → (order ≡ other) × (m ≡ n) × (i ≡ j)

-- A refusal has one place and reason.
abbrev pub OneFault : Type 0
OneFault = (limits : Limits) (b : List ℕ) (f g : Fault) → IsRefused limits b f → IsRefused limits b g → f ≡ g

-- What is whole stays so, whatever follows.
abbrev pub WholeForGood : Type 0
WholeForGood = (limits : Limits) (b c : List ℕ) (order : Order) (m : MessageTree) (n : ℕ) → IsWhole limits b order m n → IsWhole limits (b ++ c) order m n

-- What is refused stays so, whatever follows.
abbrev pub RefusedForGood : Type 0
RefusedForGood = (limits : Limits) (b c : List ℕ) (f : Fault) → IsRefused limits b f → IsRefused limits (b ++ c) f

-- What is whole under limits is whole under wider ones, in the same order, as the same message and
-- of the same length.
abbrev pub WiderWhole : Type 0
WiderWhole = (limits wider : Limits) (b : List ℕ) (order : Order) (m : MessageTree) (n : ℕ) → AreWider wider limits → IsWhole limits b order m n → IsWhole wider b order m n

-- Reading answers what the relations say, both ways.
abbrev pub ReadsMessages : Type 0
ReadsMessages = (limits : Limits) (b : List ℕ) (order : Order) (m : MessageTree) (n : ℕ) (rest : List ℕ) → IsBytes b
    → (message_read limits 0 b ≡ Done (order, m) n rest) ↔ (IsMessage limits order m × (b ≡ message_bytes order m ++ rest) × (n ≡ length (message_bytes order m)))

abbrev pub ReadsMessageFaults : Type 0
ReadsMessageFaults = (limits : Limits) (b : List ℕ) (f : Fault) → IsBytes b → (message_read limits 0 b ≡ Faulty f) ↔ IsRefused limits b f
