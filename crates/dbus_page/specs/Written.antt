-- What is written of a text into the caller's bytes.
use Rattle.std.specs.Prelude.{◌≡◌, ℕ, ◌<◌, ◌≤◌, List, ◌++◌, length, take, drop, min}
use Rattle.dbus_page.specs.declared.answers.TheConstants.{WHOLE, NO_ROOM, NO_TEXT}

-- The first bytes are the text, or as much of it as there is room for, and the others stay. The
-- count is how many the first are, and the answer says whether they are all of the text.
pub record IsWritten (text old new : List ℕ) (count answer : ℕ) : Type 0 where
  pub written : new ≡ take (length old) text ++ drop (length text) old
  pub counted : count ≡ min (length text) (length old)
  pub whole : length text ≤ length old → answer ≡ WHOLE
  pub cut : length old < length text → answer ≡ NO_ROOM

-- there is no text, and nothing is written
pub record IsNoText (old new : List ℕ) (count answer : ℕ) : Type 0 where
  pub told : answer ≡ NO_TEXT
  pub zero : count ≡ 0
  pub unchanged : new ≡ old
