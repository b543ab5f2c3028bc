-- Trusted by the headline.
-- What a cutter makes of a piece.
use Rattle.std.specs.Prelude.{ℕ, List, [], Option, None, ◌≡◌, ◌+◌, ◌++◌, length, Some, Result, Ok, Err}
use Rattle.dbus_value_model.specs.declared.fault.Fault.{Fault}
use Rattle.dbus_value_model.specs.declared.limits.Limits.{Limits}
use Rattle.dbus_value_model.specs.declared.order.Order.{Order}
use Rattle.dbus_message_model.specs.declared.message.Message.{Message}
use Rattle.dbus_message_model.specs.MessageViews.{message_tree}
use Rattle.dbus_header.specs.MessageOutcomes.{IsWhole, IsRefused, IsPartial}
use Rattle.dbus_stream.specs.declared.stream_fault.StreamFault.{StreamFault}
use Rattle.dbus_stream.specs.declared.stream_fault.StreamFault.TheVariants.{Memory, Format}

-- What a cutter keeps to and holds.

pub record CutterState : Type 0 where
  -- the limits that its messages keep
  pub limits : Limits
  -- the bytes of the message under way
  pub held : List ℕ
  -- the fault that it stays with
  pub fault : Option Fault

-- a cutter under these limits that was handed nothing yet
abbrev pub fresh : Limits → CutterState
fresh limits = record { limits = limits; held = []; fault = None }

-- how many bytes of the piece were taken, and a message
abbrev pub TakeAnswer : Type 0 → Type 0
TakeAnswer A = Result (ℕ × Option (Order × Message A)) StreamFault

-- where it met no fault before; its limits stay
abbrev pub TakeAnswers : {A : Type 0} → CutterState → List ℕ → CutterState → TakeAnswer A → Type 0
-- the message ends in the piece
TakeAnswers old piece new (Ok (n, Some given)) = IsWhole old.limits (old.held ++ piece) given.0 (message_tree given.1) (length old.held + n)
    × (new ≡ fresh old.limits)
-- the piece is taken whole
TakeAnswers old piece new (Ok (n, None)) = IsPartial old.limits (old.held ++ piece) × (n ≡ length piece)
    × (new ≡ record { limits = old.limits; held = old.held ++ piece; fault = None })
-- nothing is taken
TakeAnswers old piece new (Err Memory) = new ≡ old
TakeAnswers old piece new (Err (Format fault)) = IsRefused old.limits (old.held ++ piece) fault
    × (new ≡ record { limits = old.limits; held = old.held; fault = Some fault })

-- one call, which answers for good a fault that was met
pub record Takes {A : Type 0} (old : CutterState) (piece : List ℕ) (new : CutterState) (answer : TakeAnswer A) : Type 0 where
  pub answers : old.fault ≡ None → TakeAnswers old piece new answer
  pub stays : (f : Fault) → old.fault ≡ Some f → (answer ≡ Err (Format f)) × (new ≡ old)
