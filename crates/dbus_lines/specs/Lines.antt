-- Lines of bytes: each ends with a line feed, which is no part of it, but the last line of an input
-- may lack one.
use Rattle.std.specs.Prelude.{◌≡◌, ◌≢◌, ◌⊎◌, ℕ, Bool, true, false, List, [], ◌∷◌, ◌++◌}
use Rattle.std.specs.List.{All}

abbrev pub line_feed : ℕ
line_feed = 10

-- no byte is a line feed
abbrev pub IsUnbroken : List ℕ → Type 0
IsUnbroken bytes = All (λ b. b ≢ line_feed) bytes

-- the line is all of the bytes, and lacks a line feed, since the input ends there: it has a byte
pub record IsLastLine (ended : Bool) (bytes line more : List ℕ) : Type 0 where
  pub over : ended ≡ true
  pub some : line ≢ []
  pub all : bytes ≡ line
  pub none : more ≡ []

-- The bytes begin with this line, and then these follow. ended says whether the input ends where
-- the bytes do.
pub record BeginsWithLine (ended : Bool) (bytes line more : List ℕ) : Type 0 where
  pub unbroken : IsUnbroken line
  pub joined : (bytes ≡ line ++ line_feed ∷ more) ⊎ IsLastLine ended bytes line more

-- the bytes are these lines, one after the other, and then these are left
abbrev pub AreLines : (ended : Bool) → (bytes : List ℕ) → List (List ℕ) → (left : List ℕ) → Type 0
AreLines ended bytes [] left = bytes ≡ left
AreLines ended bytes (line ∷ lines) left = (more : List ℕ) × BeginsWithLine ended bytes line more × AreLines ended more lines left

-- ---- laws

-- An input has one list of lines,
abbrev pub OneList : Type 0
OneList = (bytes : List ℕ) (a b : List (List ℕ)) → AreLines true bytes a [] → AreLines true bytes b [] → a ≡ b

-- whatever its bytes are.
abbrev pub EachInput : Type 0
EachInput = (bytes : List ℕ) → (lines : List (List ℕ)) × AreLines true bytes lines []

-- If bytes come in two pieces, the lines of the first, and then those of what it leaves with the
-- second, are the lines of both.
abbrev pub InPieces : Type 0
InPieces = (ended : Bool) (bytes more left rest : List ℕ) (a b : List (List ℕ)) → AreLines false bytes a left → AreLines ended (left ++ more) b rest
    → AreLines ended (bytes ++ more) (a ++ b) rest
