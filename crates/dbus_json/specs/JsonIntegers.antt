-- How integers of 64 bits stand in JSON: as numbers, or as strings of them, which no reader rounds.
-- RFC 8259, section 6; RFC 7493, section 2.2.
use Rattle.std.specs.Prelude.{ℕ, ◌^◌, ◌-◌, Bool, true, false, nat_le, unsigned_abs}
use Rattle.std.specs.Int.{cast_signed, w64}
use Rattle.dbus_texts.specs.Types.{NumberCode, INT64, UINT64}
use Rattle.dbus_json.specs.declared.integers.Integers.{Integers}
use Rattle.dbus_json.specs.declared.integers.Integers.TheVariants.{Exact, Safe}

-- The greatest integer n of which n and n + 1 both are floats of 64 bits exactly. A reader that
-- takes numbers for such floats has rounded no number up to it, and none to it.
abbrev pub greatest_safe : ℕ
greatest_safe = 2 ^ 53 - 1

-- whether an integer of this absolute value may be a number
abbrev pub may_be_number : Integers → (size : ℕ) → Bool
may_be_number Exact size = true
may_be_number Safe size = nat_le size greatest_safe

-- the absolute value of an integer of 64 bits; other numbers stand for themselves
abbrev pub wide_size : NumberCode → ℕ → ℕ
wide_size INT64 n = unsigned_abs (cast_signed w64 n)
wide_size UINT64 n = n
wide_size k n = 0

-- how they stand, by whether they are to be safe
abbrev pub integers_of : (safe : Bool) → Integers
integers_of true = Safe
integers_of false = Exact
