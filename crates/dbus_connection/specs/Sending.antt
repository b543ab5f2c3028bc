-- What a connection sends of a draft, and why it sends nothing. D-Bus Specification, "Message
-- Format" (the serial) and "Message Types" ("Method Calls").
use Rattle.std.specs.Prelude.{◌≡◌, ◌≤◌, ℕ, true, false, Option, Some, Err, option_map, string_bytes}
use Rattle.std.specs.declared.alloc.Global.{Global}
use Rattle.dbus_value_model.specs.declared.order.Order.TheVariants.{Little}
use Rattle.dbus_message_model.specs.Messages.{MessageTree, message_bytes}
use Rattle.dbus_compose.specs.Drafts.{Draft, IsComposed, draft_tree, with_serial}
use Rattle.dbus_calls.specs.Events.{destination_of}
use Rattle.dbus_pending.specs.Serials.{IsNext}
use Rattle.dbus_pending.specs.Waiting.{AsNext, allowed, count, last, waiting}
use Rattle.dbus_pending.specs.declared.pending.Pending.{Pending}
use Rattle.dbus_connection.specs.Standing.{Stand, is_open}
use Rattle.dbus_connection.specs.declared.sending.Asked.{Asked}
use Rattle.dbus_connection.specs.declared.sending.Outgoing.{Outgoing}
use Rattle.dbus_connection.specs.declared.sending.Unsent.{Unsent}
use Rattle.dbus_connection.specs.declared.sending.Unsent.TheVariants.{Full, NotOpen, Unmade}

-- a message that is sent now has this serial
abbrev pub IsNextSerial : {T : Type 0} → Pending T → ℕ → Type 0
IsNextSerial before serial = IsNext (waiting before) (last before) serial

-- By the calls that wait before it is sent, and the draft, or nothing if an allocation failed.
module _ {T : Type 0} (before : Pending T) (given : Option (Draft Global)) where
  -- the message is the draft's, with the next serial
  pub record IsNextOf (m : MessageTree) : Type 0 where
    pub next : IsNextSerial before m.serial
    pub draft : Draft Global
    pub drafted : given ≡ Some draft
    pub message : m ≡ draft_tree (with_serial m.serial draft)

  -- this is sent of it
  pub record IsSent (sent : Outgoing) : Type 0 where
    pub message : MessageTree
    pub next : IsNextOf message
    pub serial : sent.serial ≡ message.serial
    pub bytes : sent.bytes.items ≡ message_bytes Little message

  -- why nothing is sent by a connection that stands there: messages have not begun, or are over; or
  -- as many calls wait as may; or the draft makes no message
  abbrev pub IsUnsent : Stand → Unsent → Type 0
  IsUnsent s NotOpen = is_open s ≡ false
  IsUnsent s Full = (is_open s ≡ true) × (allowed before ≤ count before)
  IsUnsent s (Unmade fault) =
      (is_open s ≡ true) × ((serial : ℕ) × IsNextSerial before serial
      × IsComposed (option_map (with_serial serial) given) (Err fault))

-- a call of the draft waits, with its serial, its DESTINATION and what its caller wants to know
-- again
pub record Waits {T : Type 0} (old new : Pending (Asked T)) (drafted : Option (Draft Global))
    (serial : ℕ) (call : T) : Type 0 where
  pub asked : Asked T
  pub next : AsNext old new serial asked
  pub again : asked.call ≡ call
  pub destination : (d : Draft Global) → drafted ≡ Some d
      → option_map string_bytes asked.destination ≡ destination_of (draft_tree d)
