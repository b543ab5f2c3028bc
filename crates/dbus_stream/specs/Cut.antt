-- Trusted by the headline.
-- How a stream of bytes is cut into messages, which follow one another with nothing between (D-Bus
-- Specification, "Message Protocol").
use Rattle.std.specs.Prelude.{◌≡◌, ◌≢◌, ℕ, List, [], ◌∷◌, drop}
use Rattle.dbus_value_model.specs.declared.order.Order.{Order}
use Rattle.dbus_value_model.specs.declared.fault.Fault.{Fault}
use Rattle.dbus_value_model.specs.declared.limits.Limits.{Limits}
use Rattle.dbus_message_model.specs.Messages.{MessageTree}
use Rattle.dbus_header.specs.MessageOutcomes.{IsWhole, IsRefused, IsPartial}

-- a message of a stream, with its byte order and how many bytes it has
pub record CutMessage : Type 0 where
  pub order : Order
  pub message : MessageTree
  pub size : ℕ

-- the bytes are these messages, one after the other, which keep the limits, and then the rest
abbrev pub BeginWith : Limits → List ℕ → List CutMessage → List ℕ → Type 0
BeginWith limits bytes [] rest = bytes ≡ rest
BeginWith limits bytes (item ∷ items) rest = IsWhole limits bytes item.order item.message item.size × BeginWith limits (drop item.size bytes) items rest

-- why no further message comes
pub data CutOutcome : Type 0 where
  Ended : CutOutcome
  Unfinished : CutOutcome
  Refused : Fault → CutOutcome

abbrev pub IsOutcome : Limits → List ℕ → CutOutcome → Type 0
IsOutcome limits rest Ended = rest ≡ []
IsOutcome limits rest Unfinished = (rest ≢ []) × IsPartial limits rest
IsOutcome limits rest (Refused fault) = IsRefused limits rest fault

-- the bytes are these messages and then the rest, after which no further message comes
pub record IsCut (limits : Limits) (bytes : List ℕ) (items : List CutMessage) (rest : List ℕ) (outcome : CutOutcome) : Type 0 where
  pub messages : BeginWith limits bytes items rest
  pub outcome_is : IsOutcome limits rest outcome
