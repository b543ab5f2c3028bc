-- What becomes of the lines that `json` writes if they are encoded.
-- RFC 8259, of the messages of the D-Bus Specification, "Message Format".
use Rattle.std.specs.Prelude.{◌≡◌, ◌↔◌, ◌<◌, ◌≤◌, ◌^◌, ◌++◌, ℕ, false, List, length, map, None, codes}
use Rattle.std.specs.List.{AllZip, flat_map}
use Rattle.dbus_value_model.specs.declared.order.Order.{Order}
use Rattle.dbus_message_model.specs.Messages.{MessageTree, IsValidMessage, message_bytes}
use Rattle.dbus_json.specs.declared.place.LinePlace.{LinePlace}
use Rattle.dbus_json.specs.JsonIntegers.{integers_of}
use Rattle.dbus_json.specs.JsonMessages.{IsJsonLine}
use Rattle.cli_encode.specs.Outcomes.{Outcome, Written, AreOutcomes, all_bytes, any_refused}
use Rattle.cli_encode.specs.declared.encoding.Encoding.{Encoding}

-- a message, its byte order, and what its line says of where it stands
pub record PlacedMessage : Type 0 where
  pub order : Order
  pub message : MessageTree
  pub place : LinePlace

abbrev pub bytes_of : PlacedMessage → List ℕ
bytes_of m = message_bytes m.order m.message

-- The message is valid within the limits, and this is the line that `json` writes of it, without
-- its line feed, no longer than a line may be, with safe integers exactly if it is encoded so. Its
-- number and offset are numbers of 64 bits.
pub record IsItsLine (encoding : Encoding) (m : PlacedMessage) (line : List ℕ) : Type 0 where
  pub valid : IsValidMessage encoding.limits m.message
  pub number_in : m.place.number < 2 ^ 64
  pub offset_in : m.place.offset < 2 ^ 64
  pub json : IsJsonLine (integers_of encoding.safe_integers) m.order m.message m.place (line ++ codes "\n")
  pub short : length line ≤ encoding.most

-- these are the lines of these messages, each of one
abbrev pub AreTheirLines : Encoding → List PlacedMessage → List (List ℕ) → Type 0
AreTheirLines encoding messages lines = AllZip (IsItsLine encoding) messages lines

-- each is written
abbrev pub all_written : List PlacedMessage → List Outcome
all_written messages = map (λ m. Written (bytes_of m)) messages

-- If no other byte order is wanted, each line is written as its message, and nothing else becomes
-- of the lines.
abbrev pub IsEachWritten : Type 0
IsEachWritten = (encoding : Encoding) (serial : ℕ) (messages : List PlacedMessage) (lines : List (List ℕ)) → encoding.order ≡ None → AreTheirLines encoding messages lines
    → (outcomes : List Outcome) → AreOutcomes encoding serial lines outcomes ↔ (outcomes ≡ all_written messages)

-- What is written then is the messages' bytes, one after another, and no line is refused.
abbrev pub IsInverse : Type 0
IsInverse = (encoding : Encoding) (serial : ℕ) (messages : List PlacedMessage) (lines : List (List ℕ)) → encoding.order ≡ None → AreTheirLines encoding messages lines
    → (outcomes : List Outcome) → AreOutcomes encoding serial lines outcomes → (all_bytes outcomes ≡ flat_map bytes_of messages) × (any_refused outcomes ≡ false)
