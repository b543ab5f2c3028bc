-- Bytes of server addresses. D-Bus Specification, "Server Addresses".
use Rattle.std.specs.Prelude.{ℕ, ◌+◌, ◌-◌, Bool, ◌&&◌, ◌||◌, ◌==◌, nat_le, if◌then◌else◌}

abbrev pub is_within : ℕ → ℕ → ℕ → Bool
is_within low high b = nat_le low b && nat_le b high

-- the optionally-escaped bytes: letters, digits and - _ / . \ *
abbrev pub is_plain : ℕ → Bool
is_plain b =
    is_within 48 57 b || is_within 65 90 b || is_within 97 122 b ||
    b == 45 || b == 95 || b == 47 || b == 46 || b == 92 || b == 42

abbrev pub is_hex : ℕ → Bool
is_hex b = is_within 48 57 b || is_within 65 70 b || is_within 97 102 b

-- what a hexadecimal digit stands for
abbrev pub digit : ℕ → ℕ
digit b = if nat_le b 57 then b - 48 else (if nat_le b 70 then b - 55 else b - 87)

-- the digit of a number below 16, in lower case
abbrev pub digit_of : ℕ → ℕ
digit_of n = if nat_le n 9 then n + 48 else n + 87
