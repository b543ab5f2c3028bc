-- A line, and the scan that finds where the first line of some bytes ends, or which byte has a
-- fault. D-Bus Specification, "Authentication Protocol", "Protocol Overview"; the limit of 16,384
-- bytes is this profile's.
use Rattle.std.specs.Prelude.{ℕ, ◌+◌, ◌<◌, ◌≤◌, ◌≢◌, ◌==◌, ◌&&◌, ◌||◌, not, nat_lt, Bool, false, List, [], ◌∷◌, length, if◌then◌else◌, ◌≡◌, ◌⊎◌, ◌++◌}
use Rattle.std.specs.List.{AllByRecursion}
use Rattle.dbus_auth_lines.specs.Lines.{ended}

pub data Fault : Type 0 where
  TooLong : Fault
  BadByte : (at : ℕ) → Fault

pub data Cut : Type 0 where
  -- the number of bytes of the line, its CR LF included
  Ends : (size : ℕ) → Cut
  Bad : (fault : Fault) → Cut
  More : Cut

-- the byte at place 16,382 is neither CR nor the LF of a CR LF
abbrev pub passes_limit : ℕ → Bool → ℕ → Bool
passes_limit at after_cr b = at == 16382 && not (b == 13 || (b == 10 && after_cr))

-- 0, over 127, LF without CR, or no LF after CR
abbrev pub is_bad : Bool → ℕ → Bool
is_bad after_cr b = b == 0 || nat_lt 127 b || (if after_cr then not (b == 10) else b == 10)

-- the bytes from the place `at` of a line on, where `after_cr` says that the byte before is CR
unfoldable pub scan_from : ℕ → Bool → List ℕ → Cut
scan_from at after_cr [] = More
scan_from at after_cr (b ∷ bs) =
    if passes_limit at after_cr b then Bad TooLong
    else if is_bad after_cr b then Bad (BadByte at)
    else if after_cr then Ends (at + 1)
    else scan_from (at + 1) (b == 13) bs

abbrev pub cut : List ℕ → Cut
cut k = scan_from 0 false k

-- a byte of a line, which is no CR and no LF
pub record IsPlain (b : ℕ) : Type 0 where
  pub not_nul : 0 < b
  pub ascii : b < 128
  pub not_lf : b ≢ 10
  pub not_cr : b ≢ 13

-- what stands before a CR LF
pub record IsLine (line : List ℕ) : Type 0 where
  pub plain : AllByRecursion IsPlain line
  pub short : length line ≤ 16382

-- How some bytes begin: with a line, with a fault, or with a prefix of a line. It says of whole
-- lists what the scan of Cut.antt finds byte by byte. D-Bus Specification, "Authentication
-- Protocol", "Protocol Overview".

pub data Beginning : Type 0 where
  -- a line, here without its CR LF
  WholeLine : (line : List ℕ) → Beginning
  Faulty : (fault : Fault) → Beginning
  Unfinished : Beginning

-- a prefix of a line with its CR LF, and not all of it
pub data IsUnfinished (k : List ℕ) : Type 0 where
  within_line : IsLine k → IsUnfinished k
  cr_last : (line : List ℕ) → IsLine line → k ≡ line ++ 13 ∷ [] → IsUnfinished k

-- a byte that stands in no line: 0, a byte over 127, or LF without CR
abbrev pub IsStray : ℕ → Type 0
IsStray b = (b ≡ 0) ⊎ ((127 < b) ⊎ (b ≡ 10))

-- the byte at place 16,382 is neither CR nor the LF of a CR LF
pub data IsTooLong (k : List ℕ) : Type 0 where
  long_line : (line : List ℕ) (b : ℕ) (more : List ℕ) → IsLine line → length line ≡ 16382 → b ≢ 13 → k ≡ line ++ b ∷ more → IsTooLong k
  long_past_cr : (line : List ℕ) (b : ℕ) (more : List ℕ) → IsLine line → length line ≡ 16381 → b ≢ 10 → b ≢ 13 → k ≡ line ++ 13 ∷ b ∷ more → IsTooLong k

-- the byte at this place is stray, or after CR and no LF; and the line is not too long there
pub data IsBadByte (k : List ℕ) (at : ℕ) : Type 0 where
  stray : (line : List ℕ) (b : ℕ) (more : List ℕ) → IsLine line → at ≡ length line → at < 16382 → IsStray b → k ≡ line ++ b ∷ more → IsBadByte k at
  no_lf : (line : List ℕ) (b : ℕ) (more : List ℕ) → IsLine line → at ≡ length line + 1 → b ≢ 10 → (at ≡ 16382 → b ≡ 13) → k ≡ line ++ 13 ∷ b ∷ more → IsBadByte k at

abbrev pub BeginsAs : List ℕ → Beginning → Type 0
BeginsAs k (WholeLine line) = IsLine line × ((more : List ℕ) × (k ≡ ended line ++ more))
BeginsAs k (Faulty TooLong) = IsTooLong k
BeginsAs k (Faulty (BadByte at)) = IsBadByte k at
BeginsAs k Unfinished = IsUnfinished k

-- what the scan finds there
abbrev pub cut_of : Beginning → Cut
cut_of (WholeLine line) = Ends (length line + 2)
cut_of (Faulty fault) = Bad fault
cut_of Unfinished = More
