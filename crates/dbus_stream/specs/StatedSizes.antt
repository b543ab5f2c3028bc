-- How many bytes a refused message has: what the lengths say that have fixed places in it, whatever
-- its type, flags, version and serial are. D-Bus Specification, "Message Format".
use Rattle.std.specs.Prelude.{◌≡◌, ◌⊎◌, ℕ, ◌+◌, ◌<◌, ◌≤◌, List, [], ◌∷◌, ◌++◌, length, take, drop}
use Rattle.dbus_value_model.specs.Bytes.{gap_to}
use Rattle.dbus_value_model.specs.Reading.{number_of}
use Rattle.dbus_value_model.specs.declared.limits.Limits.{Limits}
use Rattle.dbus_value_model.specs.declared.order.Order.{Order}
use Rattle.dbus_message_model.specs.Messages.{order_byte}
use Rattle.dbus_header.specs.StatedLengths.{StatesLength}

-- the bytes begin with the one that says the order of their numbers
abbrev pub HasOrder : Order → List ℕ → Type 0
HasOrder order b = take 1 b ≡ order_byte order ∷ []

-- the number of four bytes at a place
abbrev pub four_at : Order → ℕ → List ℕ → ℕ
four_at order at b = number_of order (take 4 (drop at b))

-- The first sixteen bytes state that a message has n bytes: those sixteen, the header fields, whose
-- length is at 12, the padding after them, and the body, whose length is at 4.
pub record StatesSize (limits : Limits) (b : List ℕ) (n : ℕ) : Type 0 where
  pub order : Order
  pub starts : HasOrder order b
  pub there : 16 ≤ length b
  pub fields : four_at order 12 b ≤ limits.array
  pub size : n ≡ 16 + four_at order 12 b + gap_to 8 (16 + four_at order 12 b) + four_at order 4 b
  pub within : n ≤ limits.message

-- they state no size, whatever follows
abbrev pub StatesNone : Limits → List ℕ → Type 0
StatesNone limits b = ((order : Order) → HasOrder order b → ⊥) ⊎ ((16 ≤ length b) × ((n : ℕ) → StatesSize limits b n → ⊥))

-- more bytes are wanted: those that state the size, or as many as they state
abbrev pub WantsMore : Limits → List ℕ → Type 0
WantsMore limits b = ((order : Order) × HasOrder order b × (length b < 16)) ⊎ ((n : ℕ) × StatesSize limits b n × (length b < n))

-- ---- laws

-- Bytes whose first sixteen show no fault state the size that they state as the length.
abbrev pub LengthsAreSizes : Type 0
LengthsAreSizes = (limits : Limits) (b : List ℕ) (n : ℕ) → StatesLength limits b n → StatesSize limits b n

-- Bytes state at most one size, and state it whatever follows.
abbrev pub OneSize : Type 0
OneSize = (limits : Limits) (b c : List ℕ) (n k : ℕ) → StatesSize limits b n → StatesSize limits (b ++ c) n × (StatesSize limits (b ++ c) k → k ≡ n)

-- Bytes state no size, or more are wanted, or they are all there; and no two of these.
abbrev pub SizesTell : Type 0
SizesTell = (limits : Limits) (b : List ℕ) → (StatesNone limits b → WantsMore limits b → ⊥) × ((n : ℕ) → StatesSize limits b n → (StatesNone limits b → ⊥) × (n ≤ length b → WantsMore limits b → ⊥))
