-- What the calls of a handle do to its checker, if it keeps one.
-- D-Bus Specification, "Message Protocol".
use Rattle.std.specs.Prelude.{◌≡◌, ℕ, List, [], ◌++◌, Option, Some, None, Bool, true, false, Result, option_map}
use Rattle.dbus_value_model.specs.declared.limits.Limits.{Limits}
use Rattle.dbus_check.specs.Checks.{CheckerState, Stands, Takes, IsExact, taken, limits_of}
use Rattle.dbus_check.specs.declared.check.Check.{Check}
use Rattle.dbus_auth_lines.specs.declared.lines.Guid.{Guid}
use Rattle.dbus_auth.specs.declared.bounds.Bounds.{Bounds}
use Rattle.dbus_c_auth.specs.Handshakes.{TakesIn, bounded, guid_in}
use Rattle.dbus_c_auth.specs.declared.handshake.Handshake.{Handshake}
use Rattle.dbus_c_auth.specs.declared.step.Step.{Step}
use Rattle.dbus_c_auth.specs.declared.step.TakeFault.{TakeFault}
use Rattle.dbus_c_handle.specs.declared.kept.Kept.{Kept}
use Rattle.dbus_c_handle.specs.declared.kept.Kept.TheVariants as kept

-- the checker that is kept
abbrev pub checker_of : Option Kept → Option CheckerState
checker_of (Some (kept.Checker b)) = Some b.value
checker_of _ = None

-- there is a checker under the limits, and it was handed nothing
abbrev pub IsFresh : Limits → Option CheckerState → Type 0
IsFresh limits None = ⊥
IsFresh limits (Some x) = Stands x [] × (limits_of x ≡ limits)

-- a checker takes a piece, and answers it as its own contract says: of all bytes w that it took
-- since it was made or began again
pub record Answers (old new : CheckerState) (piece : List ℕ) (check : Check) : Type 0 where
  pub answers : (w : List ℕ) → Stands old w → Takes (limits_of old) w piece check
  pub exact : (w : List ℕ) → Stands old w → IsExact (limits_of old) w piece check
  pub stands : (w : List ℕ) → Stands old w → Stands new (w ++ taken piece check)
  pub limits : limits_of new ≡ limits_of old

-- a checker x is kept, and after the call a checker that answered so
abbrev pub AnswersIn : CheckerState → Option CheckerState → List ℕ → Option Check → Type 0
AnswersIn x None piece answer = ⊥
AnswersIn x (Some y) piece None = ⊥
AnswersIn x (Some y) piece (Some check) = Answers x y piece check

-- a handle is handed a piece: its checker takes it; or it keeps none, stays as it is and answers
-- nothing
abbrev pub Handed : Option CheckerState → (old new : Option Kept) → List ℕ → Option Check → Type 0
Handed (Some x) old new piece answer = AnswersIn x (checker_of new) piece answer
Handed None old new piece answer = (new ≡ old) × (answer ≡ None)

-- a handle's checker begins again, under its limits; or it keeps none, and stays as it is
abbrev pub Restarted : Option CheckerState → (old new : Option Kept) → Bool → Type 0
Restarted (Some x) old new answer = IsFresh (limits_of x) (checker_of new) × (answer ≡ true)
Restarted None old new answer = (new ≡ old) × (answer ≡ false)

-- What the calls of a handle do to its end of a handshake, if it keeps one.
-- D-Bus Specification, "Authentication Protocol".

-- an end is kept, if there is one
abbrev pub kept_as : Option Handshake → Option Kept
kept_as made = option_map kept.Handshake made

-- the end that is kept
abbrev pub handshake_of : Option Kept → Option Handshake
handshake_of (Some (kept.Handshake h)) = Some h
handshake_of _ = None

-- an end h is kept, and after the call an end that took the piece so
abbrev pub GoesOn : Handshake → Option Handshake → List ℕ → List ℕ → List ℕ → Option (Result Step TakeFault) → Type 0
GoesOn h None piece old_room new_room answer = ⊥
GoesOn h (Some k) piece old_room new_room None = ⊥
GoesOn h (Some k) piece old_room new_room (Some result) = TakesIn h k piece old_room new_room result

-- a handle is handed a piece: its end takes it; or it keeps none, and nothing is changed, and
-- nothing answered
abbrev pub Goes : Option Handshake → (old new : Option Kept) → List ℕ → List ℕ → List ℕ → Option (Result Step TakeFault) → Type 0
Goes (Some h) old new piece old_room new_room answer = GoesOn h (handshake_of new) piece old_room new_room answer
Goes None old new piece old_room new_room answer = (new ≡ old) × (new_room ≡ old_room) × (answer ≡ None)

-- a handle's end is bounded; or it keeps none, and stays as it is
abbrev pub IsBounded : Bounds → Option Handshake → (old new : Option Kept) → Bool → Type 0
IsBounded b (Some h) old new answer = (new ≡ Some (kept.Handshake (bounded b h))) × (answer ≡ true)
IsBounded b None old new answer = (new ≡ old) × (answer ≡ false)

-- the server's GUID, of a client that has begun; of no end nothing is answered
abbrev pub TellsGuid : Option Handshake → Option (Option Guid) → Type 0
TellsGuid None answer = answer ≡ None
TellsGuid (Some h) None = ⊥
TellsGuid (Some h) (Some guid) = option_map (λ g. g.0) guid ≡ guid_in h
