-- Trusted by the headline.
-- Runs of a cutter: pieces that it is handed one after another, and what its calls answer.
use Rattle.std.specs.Prelude.{◌≡◌, ◌⊎◌, ℕ, ◌+◌, List, [], ◌∷◌, ◌++◌, drop, Option, None, Some, Ok, Err}
use Rattle.dbus_value_model.specs.declared.fault.Fault.{Fault}
use Rattle.dbus_value_model.specs.declared.limits.Limits.{Limits}
use Rattle.dbus_message_model.specs.MessageViews.{message_tree}
use Rattle.dbus_stream.specs.Cut.{CutMessage, BeginWith, CutOutcome, Ended, Unfinished, Refused, IsCut}
use Rattle.dbus_stream.specs.Cutting.{CutterState, TakeAnswer, Takes}

-- a refused call takes nothing
abbrev pub taken : {A : Type 0} → TakeAnswer A → ℕ
taken (Ok (n, given)) = n
taken (Err fault) = 0

-- what a call left of its piece is handed in again, before the other pieces
abbrev pub again : List ℕ → List (List ℕ) → List (List ℕ)
again [] pieces = pieces
again (x ∷ xs) pieces = (x ∷ xs) ∷ pieces

-- A cutter is handed pieces one after another, and again what a call leaves of one. Its calls
-- answer these, one after the other; then it is now as said, and these pieces are left to hand in.
abbrev pub Feeds : {A : Type 0} → CutterState → List (List ℕ) → List (TakeAnswer A) → CutterState → List (List ℕ) → Type 0
Feeds old pieces [] now left = (now ≡ old) × (left ≡ pieces)
Feeds old [] (answer ∷ answers) now left = ⊥
Feeds old (piece ∷ pieces) (answer ∷ answers) now left =
    (new : CutterState) × Takes old piece new answer × Feeds new (again (drop (taken answer) piece) pieces) answers now left

-- the messages that calls gave, each with its length: the bytes that were taken since the one
-- before, where so many were held at first
abbrev pub given_by : {A : Type 0} → ℕ → List (TakeAnswer A) → List CutMessage
given_by held [] = []
given_by held (Ok (n, Some given) ∷ answers) = record { order = given.0; message = message_tree given.1; size = held + n } ∷ given_by 0 answers
given_by held (Ok (n, None) ∷ answers) = given_by (held + n) answers
given_by held (Err fault ∷ answers) = given_by held answers

-- why a cutter gives no further message where nothing more is handed in
abbrev pub outcome_of : List ℕ → Option Fault → CutOutcome
outcome_of held (Some fault) = Refused fault
outcome_of [] None = Ended
outcome_of (x ∷ xs) None = Unfinished

-- all bytes were handed in, or a fault was met
abbrev pub IsSettled : CutterState → List ℕ → Type 0
IsSettled now left = (left ≡ []) ⊎ ((f : Fault) × (now.fault ≡ Some f))

-- the messages that were given of the bytes by a cutter under these limits, where it is now as said
-- and these bytes are left
pub record CutsInto (limits : Limits) (bytes : List ℕ) (given : List CutMessage) (now : CutterState) (left : List ℕ) : Type 0 where
  -- the bytes are those of the messages, then those that it holds and then those that are left:
  -- none is lost
  pub messages : BeginWith limits bytes given (now.held ++ left)
  -- its limits are as they were
  pub limits_stay : now.limits ≡ limits
  -- they are the first messages of the cut of the bytes
  pub first : (all : List CutMessage) (rest : List ℕ) (outcome : CutOutcome) → IsCut limits bytes all rest outcome → (more : List CutMessage) × (all ≡ given ++ more)
  -- and in the end all of them, with the cut's rest and its fault
  pub all : IsSettled now left → IsCut limits bytes given (now.held ++ left) (outcome_of now.held now.fault)
