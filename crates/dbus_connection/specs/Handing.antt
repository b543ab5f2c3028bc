-- The descriptors of what a call tells, if they came beside the bytes. D-Bus Specification, "Header
-- Fields" (UNIX_FDS) and "NEGOTIATE_UNIX_FD Command".
use Rattle.std.specs.Prelude.{◌≡◌, ◌<◌, ◌+◌, ◌-◌, ◌^◌, ◌++◌, ℕ, min, true, false, List, [], ◌∷◌}
use Rattle.dbus_descriptors.specs.Kept.{Kept, TakesOwn, closed, passed_over}
use Rattle.dbus_descriptors.specs.Sharing.{CannotTake, descriptors_of}
use Rattle.dbus_descriptors.specs.declared.descriptors.Came.{Came}
use Rattle.dbus_descriptors.specs.declared.descriptors.NotTaken.{NotTaken}
use Rattle.dbus_descriptors.specs.declared.descriptors.NotTaken.TheVariants.{Memory, Over, TooFew}
use Rattle.dbus_connection.specs.Answers.{Answers}
use Rattle.dbus_connection.specs.Shown.{IsAsBefore, settings_of, stand, taken_of}
use Rattle.dbus_connection.specs.Standing.{Answer, Begins, Closed, Gives, Passes, Told}
use Rattle.dbus_connection.specs.declared.connection.Connection.{Connection}

module _ {D : Type 0} where
  -- what waits before the call and after it, and the others and what is appended to them, if this is
  -- told and the bytes that are taken end there: a message takes its own, if it has some; those that
  -- came where one is passed over are nobody's, as are all if the ends did not agree to pass any
  abbrev pub Hands : (end : ℕ) → Told → (old new : Kept D) → (others appended : List D) → Type 0
  Hands end (Gives view fds) old new others appended =
      (0 < fds → TakesOwn old new (record { end = end; count = fds }) others appended)
      × (fds ≡ 0 → (new ≡ old) × (appended ≡ others))
  Hands end (Passes length header) old new others appended =
      (new ≡ passed_over (min (2 ^ 64 - 1) (end + length)) old) × (appended ≡ others)
  Hands end (Begins send guid false) old new others appended =
      (new ≡ passed_over (2 ^ 64 - 1) old) × (appended ≡ others)
  Hands end told old new others appended = (new ≡ old) × (appended ≡ others)

  -- why a message that ends there does not take its own
  abbrev pub Lacks : (end : ℕ) → Told → (old new : Kept D) → NotTaken → Type 0
  Lacks end (Gives view fds) old new TooFew =
      (old.over ≡ false) × CannotTake old.waiting (record { end = end; count = fds })
      × (new ≡ closed old)
  Lacks end (Gives view fds) old new Over = (old.over ≡ true) × (0 < fds) × (new ≡ old)
  Lacks end told old new why = ⊥

-- By a connection before a call and after it, and what waits then.
module _ {T D : Type 0} (old new : Connection T) (bytes : List ℕ) (before after : Kept D) where
  -- a message is taken that lacks descriptors, and the connection is closed
  pub record IsLacking (why : NotTaken) : Type 0 where
    pub answer : Answer
    pub answers : Answers (settings_of old) (stand old) bytes answer
    pub taken : taken_of new ≡ min (2 ^ 64 - 1) (taken_of old + answer.taken)
    pub lacks : Lacks (taken_of new) answer.told before after why
    pub closed : stand new ≡ Closed

  -- or memory ran out, and nothing is changed
  abbrev pub IsUnhanded : NotTaken → Type 0
  IsUnhanded Memory = IsAsBefore old new × (after ≡ before)
  IsUnhanded why = IsLacking why

-- ---- a law

-- what happens to descriptors: one is kept; or a call tells this of bytes that end there, and hands
-- these out
pub data Turn (D : Type 0) : Type 0 where
  Keeps : Came D → Turn D
  Calls : (end : ℕ) → Told → (own : List D) → Turn D

module _ {D : Type 0} where
  -- one after another, from what waits to what is left
  abbrev pub AreTurns : Kept D → List (Turn D) → Kept D → Type 0
  AreTurns k [] left = k ≡ left
  AreTurns k (Keeps d ∷ turns) left =
      AreTurns (record k { waiting = k.waiting ++ d ∷ [] }) turns left
  AreTurns k (Calls end told own ∷ turns) left =
      (next : Kept D) × Hands end told k next [] own × AreTurns next turns left

  abbrev pub came_in : List (Turn D) → List D
  came_in [] = []
  came_in (Keeps d ∷ turns) = d.descriptor ∷ came_in turns
  came_in (Calls end told own ∷ turns) = came_in turns

  abbrev pub handed_out : List (Turn D) → List D
  handed_out [] = []
  handed_out (Keeps d ∷ turns) = handed_out turns
  handed_out (Calls end told own ∷ turns) = own ++ handed_out turns

-- each that came is handed out once, by one call, or is left, and all stay in order
abbrev pub EachOnce : Type 0 → Type 0
EachOnce D = (k left : Kept D) (turns : List (Turn D)) → k.waiting ≡ [] → AreTurns k turns left
    → came_in turns ≡ handed_out turns ++ descriptors_of left.waiting
