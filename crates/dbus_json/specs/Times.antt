-- A time as text: the seconds since 1970 began in UTC, with nine digits behind the point.
-- POSIX.1-2017, Base Definitions, "Seconds Since the Epoch"; D-Bus says nothing of times.
use Rattle.std.specs.Prelude.{ℕ, ◌+◌, ◌/◌, ◌%◌, List, [], ◌∷◌, ◌++◌, Option, None, Some, map, codes, decimal}
use Rattle.dbus_json.specs.JsonValues.{plain, member}

-- the digit of a number at the place of this power of ten
abbrev pub digit_at : (number power : ℕ) → ℕ
digit_at number power = 48 + number / power % 10

-- the powers of ten of the nine places behind the point, in nanoseconds
abbrev pub powers : List ℕ
powers = 100000000 ∷ 10000000 ∷ 1000000 ∷ 100000 ∷ 10000 ∷ 1000 ∷ 100 ∷ 10 ∷ 1 ∷ []

-- the nine digits behind the point
abbrev pub fraction_digits : (nanoseconds : ℕ) → List ℕ
fraction_digits nanoseconds = map (digit_at nanoseconds) powers

-- so many nanoseconds since 1970, in seconds
abbrev pub seconds_text : (nanoseconds : ℕ) → List ℕ
seconds_text nanoseconds = decimal (nanoseconds / 1000000000) ++ (codes "." ++ fraction_digits nanoseconds)

-- the three digits of thousandths behind the point
abbrev pub thousandths_digits : (thousandths : ℕ) → List ℕ
thousandths_digits thousandths = map (digit_at thousandths) (100 ∷ 10 ∷ 1 ∷ [])

-- so many thousandths, with three digits behind the point
abbrev pub thousandths_text : (thousandths : ℕ) → List ℕ
thousandths_text thousandths = decimal (thousandths / 1000) ++ (codes "." ++ thousandths_digits thousandths)

-- the member for a time, if there is one
abbrev pub time_members : Option ℕ → List (List ℕ)
time_members None = []
time_members (Some nanoseconds) = member (codes "time") (plain (seconds_text nanoseconds)) ∷ []
