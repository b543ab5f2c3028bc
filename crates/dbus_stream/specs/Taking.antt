-- What is known of a taker of messages, and what it makes of a piece where it holds the bytes w of
-- the message under way. D-Bus Specification, "Message Protocol".
use Rattle.std.specs.Prelude.{◌≡◌, ℕ, ◌+◌, ◌<◌, List, [], ◌++◌, length, Option, None, Some, Result, Ok, Err}
use Rattle.dbus_value_model.specs.declared.order.Order.{Order}
use Rattle.dbus_value_model.specs.declared.limits.Limits.{Limits}
use Rattle.dbus_message_model.specs.Messages.{MessageTree}
use Rattle.dbus_header.specs.MessageOutcomes.{IsWhole, IsRefused, IsPartial}
use Rattle.dbus_stream.specs.declared.stream_fault.StreamFault.{StreamFault}
use Rattle.dbus_stream.specs.declared.stream_fault.StreamFault.TheVariants.{Memory, Format}

pub record Taking (T G : Type 0) : Type 1 where
  -- the limits that its messages keep
  pub limits : T → Limits
  -- these are the bytes that it holds of the message under way
  pub holds : T → List ℕ → Type 0
  -- and those that it keeps after a fault
  pub keeps : T → List ℕ → Type 0
  -- a growth may be refused
  pub grows : Type 0
  -- what it gives of the message of so many bytes that bytes begin with, and is then
  pub gives : T → List ℕ → ℕ → G → Type 0
  -- how many bytes of its last piece it still lends: the message that it gave, where that lay there
  -- whole
  pub lent : T → ℕ
  -- it lends no message
  pub rests : T → Type 0

module _ {T G : Type 0} (k : Taking T G) where
  -- the message ends with the first n bytes of the piece, of which there is one at least, and this
  -- is given of it
  pub record Completes (old : T) (w piece : List ℕ) (new : T) (n : ℕ) (given : G) : Type 0 where
    pub order : Order
    pub message : MessageTree
    pub whole : IsWhole (k.limits old) (w ++ piece) order message (length w + n)
    pub some : 0 < n
    pub gives : k.gives new (w ++ piece) (length w + n) given
    pub holds : k.holds new []
    pub lends : 0 < k.lent new → (w ≡ []) × (k.lent new ≡ n)

  -- it holds these bytes, and lends none
  pub record Waits (w : List ℕ) (new : T) : Type 0 where
    pub holds : k.holds new w
    pub rests : k.rests new

  -- how many bytes of the piece were taken, and what is given
  abbrev pub Takes : T → List ℕ → List ℕ → T → Result ℕ StreamFault → Option G → Type 0
  Takes old w piece new (Ok n) (Some given) = Completes old w piece new n given
  Takes old w piece new (Ok n) None = IsPartial (k.limits old) (w ++ piece) × (n ≡ length piece) × Waits (w ++ piece) new
  Takes old w piece new (Err Memory) given = k.grows × Waits w new
  -- what it held shows no fault, so the piece does
  Takes old w piece new (Err (Format fault)) given = IsRefused (k.limits old) (w ++ piece) fault × IsPartial (k.limits old) w × k.keeps new w
