-- How long a call took, in milliseconds. D-Bus says nothing of times: they are those of a capture.
use Rattle.std.specs.Prelude.{ℕ, ◌-◌, ◌/◌, nat_lt, List, [], ◌∷◌, ◌++◌, Bool, true, false, Option, None, Some, codes, decimal, if◌then◌else◌}
use Rattle.dbus_json.specs.Times.{digit_at}
use Rattle.dbus_call_lines.specs.declared.elapsed.Elapsed.{Elapsed}

-- the nanoseconds between two times, and whether the second is the earlier one
abbrev pub between : (from to : ℕ) → Elapsed
between from to = if nat_lt to from then record { backwards = true; nanoseconds = from - to } else record { backwards = false; nanoseconds = to - from }

-- if both are known
abbrev pub time_between : (from to : Option ℕ) → Option Elapsed
time_between (Some from) (Some to) = Some (between from to)
time_between from to = None

abbrev pub sign : (backwards : Bool) → List ℕ
sign backwards = if backwards then codes "-" else []

-- the digits of a number for hundreds, tens and ones
abbrev pub three_digits : ℕ → List ℕ
three_digits n = digit_at n 100 ∷ digit_at n 10 ∷ digit_at n 1 ∷ []

-- in milliseconds, with three digits behind the point
abbrev pub milliseconds_text : Elapsed → List ℕ
milliseconds_text e = sign e.backwards ++ (decimal (e.nanoseconds / 1000000) ++ (codes "." ++ three_digits (e.nanoseconds / 1000)))

-- with six, which is exact
abbrev pub exact_text : Elapsed → List ℕ
exact_text e = milliseconds_text e ++ three_digits e.nanoseconds
