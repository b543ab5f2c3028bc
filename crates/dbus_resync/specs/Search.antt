-- Where in bytes a message begins, and how much is looked at to find it.
-- D-Bus Specification, "Message Format".
use Rattle.std.specs.Prelude.{◌≡◌, ◌⊎◌, ℕ, ◌+◌, ◌<◌, ◌≤◌, List, length, drop, sum, slice_index}
use Rattle.dbus_value_model.specs.declared.limits.Limits.{Limits}
use Rattle.dbus_value_model.specs.declared.order.Order.{Order}
use Rattle.dbus_message_model.specs.Messages.{MessageTree}
use Rattle.dbus_header.specs.MessageOutcomes.{IsWhole}
use Rattle.dbus_header.specs.NoMessage.{BeginsWithNone}
use Rattle.dbus_header.specs.StatedLengths.{StatesLength}
use Rattle.dbus_resync.specs.declared.found.Found.{Found}
use Rattle.dbus_resync.specs.declared.found.Found.TheVariants.{At, Nowhere, Spent}
use Rattle.dbus_resync.specs.declared.found.Searched.{Searched}

-- a message within the limits begins at the offset, and all of it is there
abbrev pub BeginsAt : Limits → List ℕ → (offset : ℕ) → Type 0
BeginsAt limits bytes offset = (order : Order) × (m : MessageTree) × (n : ℕ) × IsWhole limits (drop offset bytes) order m n

-- none begins before the offset
abbrev pub NoneBefore : Limits → List ℕ → (offset : ℕ) → Type 0
NoneBefore limits bytes offset = (k : ℕ) → k < offset → BeginsWithNone limits (drop k bytes)

-- it is the least offset at which one begins
pub record IsFirst (limits : Limits) (bytes : List ℕ) (offset : ℕ) : Type 0 where
  pub begins : BeginsAt limits bytes offset
  pub least : NoneBefore limits bytes offset

-- what is found
abbrev pub Finds : Limits → List ℕ → Found → Type 0
Finds limits bytes (At offset) = IsFirst limits bytes offset
Finds limits bytes Nowhere = NoneBefore limits bytes (length bytes)
Finds limits bytes Spent = Unit {0}

-- ---- the effort

-- how many bytes are looked at for a message that begins with them: as many as they state that it
-- has, if so many are there; else none
abbrev pub Looks : Limits → List ℕ → ℕ → Type 0
Looks limits bytes n = (StatesLength limits bytes n × (n ≤ length bytes)) ⊎ ((n ≡ 0) × ((k : ℕ) → StatesLength limits bytes k → length bytes < k))

-- these are looked at for each of the first offsets
pub record AreLooked (limits : Limits) (bytes : List ℕ) (looked : List ℕ) : Type 0 where
  pub each : (k : ℕ) → k < length looked → Looks limits (drop k bytes) (slice_index looked k)

-- so many are looked at for the offsets before this one
abbrev pub LooksBefore : Limits → List ℕ → (offset total : ℕ) → Type 0
LooksBefore limits bytes offset total = (looked : List ℕ) × AreLooked limits bytes looked × (length looked ≡ offset) × (total ≡ sum looked)

-- so many bytes are looked at in all, which is within the effort; that alone can keep a message from
-- being found, and all of it counts then
abbrev pub KeepsEffort : Limits → List ℕ → (effort looked : ℕ) → Found → Type 0
KeepsEffort limits bytes effort looked (At offset) = LooksBefore limits bytes (offset + 1) looked × (looked ≤ effort)
KeepsEffort limits bytes effort looked Nowhere = LooksBefore limits bytes (length bytes) looked × (looked ≤ effort)
KeepsEffort limits bytes effort looked Spent = (looked ≡ effort) × (offset : ℕ) × NoneBefore limits bytes offset × (total : ℕ) × LooksBefore limits bytes (offset + 1) total × (effort < total)

-- what a search within an effort comes to
pub record Searches (limits : Limits) (bytes : List ℕ) (effort : ℕ) (s : Searched) : Type 0 where
  pub finds : Finds limits bytes s.found
  pub keeps_effort : KeepsEffort limits bytes effort s.looked s.found

-- ---- laws

-- A search comes to one thing.
abbrev pub OneFound : Type 0
OneFound = (limits : Limits) (bytes : List ℕ) (effort : ℕ) (s t : Searched) → Searches limits bytes effort s → Searches limits bytes effort t → s ≡ t
