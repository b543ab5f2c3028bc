-- How many bytes a message within limits has, by the items that have fixed places: its first
-- sixteen bytes. D-Bus Specification, "Message Format"; docs/WIRE-FORMAT.md, "Messages".
use Rattle.std.specs.Prelude.{◌≡◌, ℕ, ◌+◌, ◌<◌, List, length, Option, Some, None, Result, Ok, Err, ◌≤◌, ◌⊎◌, ◌++◌}
use Rattle.dbus_value_model.specs.Bytes.{gap_to}
use Rattle.dbus_value_model.specs.declared.limits.Limits.{Limits}
use Rattle.dbus_value_model.specs.declared.fault.Fault.{Fault}
use Rattle.dbus_value_model.specs.declared.order.Order.{Order}
use Rattle.dbus_value_model.specs.ByteNumbers.{IsBytes}
use Rattle.dbus_message_model.specs.Messages.{MessageTree}
use Rattle.dbus_header.specs.MessageItems.{fixed_items}
use Rattle.dbus_header.specs.declared.fixed_header.FixedHeader.{FixedHeader}
use Rattle.dbus_header.specs.MessageOutcomes.{IsRefused, IsPartial, IsWhole}

-- the message's length by what these items say: sixteen bytes, the fields, the padding after them
-- and the body
abbrev pub length_by : FixedHeader → ℕ
length_by h = 16 + h.fields + gap_to 8 (16 + h.fields) + h.body

-- the first sixteen bytes pass as the items that have fixed places, and state n bytes
unfoldable pub StatesLength : Limits → List ℕ → ℕ → Type 0
StatesLength limits b n = (h : FixedHeader) × (rest : List ℕ) × (fixed_items limits).Passed 0 b h 16 rest × (n ≡ length_by h)

-- what is answered: the length; or that there are too few bytes, which show no fault; or the fault
-- within the first sixteen
abbrev pub Stated : Limits → List ℕ → Result (Option ℕ) Fault → Type 0
Stated limits b (Ok (Some n)) = StatesLength limits b n
Stated limits b (Ok None) = (length b < 16) × IsPartial limits b
Stated limits b (Err f) = IsRefused limits b f × ((n : ℕ) → StatesLength limits b n → ⊥)

-- What the length says that bytes state of a message that they begin with.
-- D-Bus Specification, "Message Format".

-- Whatever follows bytes that state n bytes, a message that they begin with has n bytes, and all
-- are there.
abbrev pub StatedHolds : Type 0
StatedHolds = (limits : Limits) (b c : List ℕ) (order : Order) (m : MessageTree) (n k : ℕ) → StatesLength limits b n → IsWhole limits (b ++ c) order m k → (k ≡ n) × (n ≤ length (b ++ c))

-- Bytes that begin with a message state its length, which is 16 at least.
abbrev pub WholeStates : Type 0
WholeStates = (limits : Limits) (b : List ℕ) (order : Order) (m : MessageTree) (n : ℕ) → IsWhole limits b order m n → StatesLength limits b n × (16 ≤ n)

-- Bytes state at most one length, and state it whatever follows.
abbrev pub OneStated : Type 0
OneStated = (limits : Limits) (b c : List ℕ) (n k : ℕ) → StatesLength limits b n → StatesLength limits (b ++ c) n × (StatesLength limits (b ++ c) k → k ≡ n)

-- Sixteen bytes and more state a length or are refused.
abbrev pub SomeStated : Type 0
SomeStated = (limits : Limits) (b : List ℕ) → IsBytes b → 16 ≤ length b → ((n : ℕ) × StatesLength limits b n) ⊎ ((f : Fault) × IsRefused limits b f)
