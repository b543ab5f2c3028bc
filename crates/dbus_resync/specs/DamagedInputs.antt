-- What damaged bytes are made of: messages, and bytes that are lost before the next one. limits are
-- those that each message keeps, and the next one is looked for among so many bytes as the window
-- has. D-Bus Specification, "Message Format".
use Rattle.std.specs.Prelude.{◌≡◌, ℕ, ◌+◌, ◌≤◌, List, [], ◌∷◌, ◌++◌, length, take, drop}
use Rattle.dbus_value_model.specs.declared.limits.Limits.{Limits}
use Rattle.dbus_value_model.specs.declared.order.Order.{Order}
use Rattle.dbus_message_model.specs.Messages.{MessageTree, message_bytes, IsValidMessage}
use Rattle.dbus_header.specs.MessageOutcomes.{IsWhole}
use Rattle.dbus_header.specs.NoMessage.{BeginsWithNone}
use Rattle.dbus_resync.specs.Search.{IsFirst, NoneBefore}

-- a message, in so many bytes; or so many bytes that are lost
pub data Part : Type 0 where
  Whole : Order → MessageTree → ℕ → Part
  Lost : ℕ → Part

abbrev pub size_of : Part → ℕ
size_of (Whole order m size) = size
size_of (Lost size) = size

module _ (limits : Limits) (window : ℕ) where
  -- the bytes begin with no message, and the first one in the window comes after so many of them
  pub record IsLost (bytes : List ℕ) (size : ℕ) : Type 0 where
    pub none : BeginsWithNone limits bytes
    pub next : IsFirst limits (take window bytes) size

  -- the bytes begin with this part
  abbrev pub IsPart : List ℕ → Part → Type 0
  IsPart bytes (Whole order m size) = IsWhole limits bytes order m size
  IsPart bytes (Lost size) = IsLost bytes size

  -- they begin with none: no message begins in the window
  pub record IsRest (bytes : List ℕ) : Type 0 where
    pub none : BeginsWithNone limits bytes
    pub nowhere : NoneBefore limits (take window bytes) (length (take window bytes))

  -- the bytes are these parts, one after the other, and then the rest
  abbrev pub AreParts : List ℕ → List Part → (rest : List ℕ) → Type 0
  AreParts bytes [] rest = (bytes ≡ rest) × IsRest rest
  AreParts bytes (part ∷ parts) rest = IsPart bytes part × AreParts (drop (size_of part) bytes) parts rest

-- ---- laws

-- Bytes are made of parts and a rest in one way.
abbrev pub OneWay : Type 0
OneWay = (limits : Limits) (window : ℕ) (bytes : List ℕ) (parts others : List Part) (rest last : List ℕ)
    → AreParts limits window bytes parts rest → AreParts limits window bytes others last → (parts ≡ others) × (rest ≡ last)

-- Whatever the bytes before a valid message are, no more than these are lost, if all of them and it
-- lie in the window.
abbrev pub NextIsMet : Type 0
NextIsMet = (limits : Limits) (window : ℕ) (damaged : List ℕ) (order : Order) (m : MessageTree) (after : List ℕ) (size : ℕ) → IsValidMessage limits m
    → length damaged + length (message_bytes order m) ≤ window → IsLost limits window (damaged ++ (message_bytes order m ++ after)) size → size ≤ length damaged
