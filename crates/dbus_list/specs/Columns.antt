-- The columns of a line, and names that fit one. D-Bus says nothing of terminals; of what elements
-- names are made, the D-Bus Specification, "Valid Names".
use Rattle.std.specs.Prelude.{ℕ, ◌-◌, ◌/◌, ◌%◌, nat_eq, nat_lt, nat_le, List, [], ◌∷◌, ◌++◌, length, Option, None, Some, codes, if◌then◌else◌, max, min, replicate}
use Rattle.dbus_json.specs.Times.{digit_at}

-- a text at the right or the left of a column of so many cells
abbrev pub right : (cells : ℕ) → List ℕ → List ℕ
right n text = replicate (n - length text) 32 ++ text

abbrev pub left : (cells : ℕ) → List ℕ → List ℕ
left n text = text ++ replicate (n - length text) 32

-- ---- names

-- what follows each dot of a name, the longest first
abbrev pub ends : (name : List ℕ) → List (List ℕ)
ends [] = []
ends (b ∷ bs) = if nat_eq b 46 then bs ∷ ends bs else ends bs

-- the first of these ends that has fewer than so many bytes; or if none has, the last of them
abbrev pub first_short : (most : ℕ) → (none : List ℕ) → (ends : List (List ℕ)) → List ℕ
first_short most none [] = none
first_short most none (end ∷ more) = if nat_lt (length end) most then end else first_short most end more

-- A name as it fits so many cells: all of it, or `~` and its last elements, as many as fit, but its
-- last one always.
abbrev pub short : (most : ℕ) → (name : List ℕ) → List ℕ
short most name = if nat_le (length name) most then name else codes "~" ++ first_short most name (ends name)

-- How many cells a name has in a line of so many cells. For 0 cells there is no bound: no name has
-- over 255 bytes.
abbrev pub name_cells : (line : ℕ) → ℕ
name_cells line = if nat_eq line 0 then 255 else max 6 (min 30 (line / 5 - 4))

-- how many cells its column has
abbrev pub name_column : (line : ℕ) → ℕ
name_column line = if nat_eq line 0 then 20 else name_cells line

-- how many cells are left behind a name for another one in brackets
abbrev pub known_room : (line : ℕ) → (name : List ℕ) → ℕ
known_room line name = if nat_eq line 0 then 255 else name_cells line - length name - 2

-- the other one is behind it if its last element fits
abbrev pub with_known : (line : ℕ) → (name known : List ℕ) → List ℕ
with_known line name known = if nat_le (length known) (known_room line name) then name ++ (codes "(" ++ (known ++ codes ")")) else short (name_cells line) name

-- a connection by a name of its own, and by the one by which it is known, each as it fits
abbrev pub connection : (line : ℕ) → (name : List ℕ) → (known : Option (List ℕ)) → List ℕ
connection line name None = short (name_cells line) name
connection line name (Some known) = with_known line name (short (known_room line name) known)

-- the same in its column
abbrev pub column : (line : ℕ) → (name : List ℕ) → (known : Option (List ℕ)) → List ℕ
column line name known = left (name_column line) (connection line name known)

-- ---- times

abbrev pub two_digits : ℕ → List ℕ
two_digits n = digit_at n 10 ∷ digit_at n 1 ∷ []

abbrev pub three_digits : ℕ → List ℕ
three_digits n = digit_at n 100 ∷ digit_at n 10 ∷ digit_at n 1 ∷ []

-- The time of day in UTC, so many nanoseconds after 1970 began: hours, minutes, seconds and
-- milliseconds. POSIX.1-2017, Base Definitions, "Seconds Since the Epoch": each day has 86,400.
abbrev pub clock : (nanoseconds : ℕ) → List ℕ
clock t =
    two_digits (t / 3600000000000 % 24) ++ (codes ":" ++ (two_digits (t / 60000000000 % 60) ++ (codes ":"
    ++ (two_digits (t / 1000000000 % 60) ++ (codes "." ++ three_digits (t / 1000000 % 1000))))))
