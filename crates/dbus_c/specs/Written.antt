-- A text that is written into the caller's bytes.
use Rattle.std.specs.Prelude.{◌≡◌, ℕ, ◌+◌, ◌<◌, ◌≤◌, List, [], ◌∷◌, ◌++◌, length, take, drop}
use Rattle.dbus_c.specs.declared.answers.TheConstants.{WHOLE, NO_ROOM}

-- The first bytes are the text and a 0 after it, or as much of this as there is room for, and the
-- others stay. The answer says whether there was room for all.
pub record IsWritten (text old new : List ℕ) (answer : ℕ) : Type 0 where
  pub written : new ≡ take (length old) (text ++ 0 ∷ []) ++ drop (length text + 1) old
  pub whole : length text < length old → answer ≡ WHOLE
  pub cut : length old ≤ length text → answer ≡ NO_ROOM
