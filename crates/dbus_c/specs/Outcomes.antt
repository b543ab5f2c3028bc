-- The answers of the calls that take a message apart: what each says of the bytes beside whether
-- there was room and memory. D-Bus Specification, "Message Protocol".
use Rattle.std.specs.Prelude.{◌≡◌, ◌≢◌, ℕ, List, length, take, Result, Ok, Err, ◌<◌, ◌≤◌, ◌++◌, drop, nat_eq, if◌then◌else◌}
use Rattle.dbus_value_model.specs.declared.limits.Limits.{Limits}
use Rattle.dbus_value_model.specs.declared.order.Order.{Order}
use Rattle.dbus_message_model.specs.Messages.{MessageTree, message_bytes}
use Rattle.dbus_header.specs.MessageOutcomes.{IsWhole}
use Rattle.dbus_validate.specs.declared.validating.Validated.{Validated}
use Rattle.dbus_view.specs.Views.{ViewState, Views}
use Rattle.dbus_value_model.specs.declared.order.Order.TheVariants.{Little, Big}
use Rattle.dbus_c.specs.declared.answers.TheConstants.{WHOLE, NO_MEMORY, NO_ROOM}

-- the answer, if there were room for what is to be written
abbrev pub with_room : ℕ → ℕ
with_room answer = if nat_eq answer NO_ROOM then WHOLE else answer

-- the answer, if there were memory
abbrev pub with_memory : ℕ → ℕ
with_memory answer = if nat_eq answer NO_MEMORY then WHOLE else answer

-- the answer says that the bytes begin with a message, and whether there was room
abbrev pub IsTold : ℕ → Type 0
IsTold answer = with_room answer ≡ WHOLE

-- the answer of a call that takes a message apart: what it needs, or why there is no message
abbrev pub answer_of : Result Validated ℕ → ℕ
answer_of (Ok validated) = WHOLE
answer_of (Err answer) = answer

-- a view of the message that the bytes begin with, which is taken by itself
pub record IsFirstView (limits : Limits) (b : List ℕ) (v : ViewState) : Type 0 where
  pub order : Order
  pub message : MessageTree
  pub views : Views v order message
  pub whole : IsWhole limits b order message (length v.bytes)
  pub front : v.bytes ≡ take (length v.bytes) b

-- A message written in the byte order that a caller asks for.
-- D-Bus Specification, "Message Format".

-- the order that a number names: big where it is the byte B
abbrev pub order_named : ℕ → Order
order_named number = if nat_eq number 66 then Big else Little

-- the message that the bytes begin with is written in the order that is asked for, over the old
-- bytes, if there is room for it; else these stay
pub record Swaps (limits : Limits) (b : List ℕ) (asked : Order) (answer : ℕ) (old new : List ℕ) : Type 0 where
  pub written : (order : Order) (m : MessageTree) (n : ℕ) → IsWhole limits b order m n → n ≤ length old → (answer ≡ WHOLE) × (new ≡ message_bytes asked m ++ drop n old)
  pub no_room : (order : Order) (m : MessageTree) (n : ℕ) → IsWhole limits b order m n → length old < n → answer ≡ NO_ROOM
  pub unchanged : answer ≢ WHOLE → new ≡ old
