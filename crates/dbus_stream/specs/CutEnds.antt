-- The fault of a stream that ends after some bytes, and how many bytes the messages before it have.
-- D-Bus Specification, "Message Protocol".
use Rattle.std.specs.Prelude.{ℕ, ◌+◌, List, [], ◌∷◌, length, Option, None, Some, ◌≡◌, ◌<◌, ◌++◌, false}
use Rattle.dbus_value_model.specs.declared.fault.Fault.{Fault}
use Rattle.dbus_value_model.specs.declared.fault.Reason.TheVariants.{Truncated}
use Rattle.dbus_value_model.specs.declared.limits.Limits.{Limits}
use Rattle.dbus_value_model.specs.ByteNumbers.{IsBytes}
use Rattle.dbus_header.specs.MessageOutcomes.{IsPartial, IsRefused}
use Rattle.dbus_header.specs.StatedLengths.{StatesLength}
use Rattle.dbus_stream.specs.Cut.{CutMessage, CutOutcome, Ended, Unfinished, Refused, IsCut}
use Rattle.dbus_stream.specs.Lasting.{is_truncated}

-- the fault of an input that ends within a message, after these bytes of it
abbrev pub truncated : List ℕ → Fault
truncated rest = record { at = length rest; reason = Truncated }

-- the fault of an input that ends after these bytes
abbrev pub fault_at_end : List ℕ → CutOutcome → Option Fault
fault_at_end rest Ended = None
fault_at_end rest Unfinished = Some (truncated rest)
fault_at_end rest (Refused fault) = Some fault

-- how many bytes the messages have
abbrev pub sizes : List CutMessage → ℕ
sizes [] = 0
sizes (item ∷ items) = item.size + sizes items

-- The laws of cuts of streams, and of refused messages that are passed over, under all limits.

-- bytes have at most one cut
abbrev pub OneCut : Type 0
OneCut = (limits : Limits) (bytes : List ℕ) (xs ys : List CutMessage) (r s : List ℕ) (a b : CutOutcome) → IsCut limits bytes xs r a → IsCut limits bytes ys s b → (xs ≡ ys) × (r ≡ s) × (a ≡ b)

-- the messages of a prefix are the first of all messages
abbrev pub CutOfPrefix : Type 0
CutOfPrefix = (limits : Limits) (front suffix : List ℕ) (xs ys : List CutMessage) (r s : List ℕ) (a b : CutOutcome) → IsCut limits front xs r a → IsCut limits (front ++ suffix) ys s b
    → (more : List CutMessage) × (ys ≡ xs ++ more)

-- a cut of the bytes, whatever its parts
abbrev pub HasCut : Limits → List ℕ → Type 0
HasCut limits bytes = (items : List CutMessage) × (rest : List ℕ) × (outcome : CutOutcome) × IsCut limits bytes items rest outcome

-- bytes have a cut
abbrev pub EachCut : Type 0
EachCut = (limits : Limits) (bytes : List ℕ) → IsBytes bytes → HasCut limits bytes

-- ---- what passing over a refused message rests on. D-Bus Specification, "Message Format"

-- bytes that are neither a message nor refused are fewer than they state, so once as many are there
-- no more are wanted
abbrev pub StatedSuffice : Type 0
StatedSuffice = (limits : Limits) (bytes : List ℕ) (n : ℕ) → IsBytes bytes → StatesLength limits bytes n → IsPartial limits bytes → length bytes < n

-- no fault of bytes is that of an input that ends within a message
abbrev pub NoneTruncated : Type 0
NoneTruncated = (limits : Limits) (bytes : List ℕ) (fault : Fault) → IsBytes bytes → IsRefused limits bytes fault → is_truncated fault.reason ≡ false
