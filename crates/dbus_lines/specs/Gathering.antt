-- What is kept of a line while its pieces come.
use Rattle.std.specs.Prelude.{◌≡◌, ◌≤◌, ◌<◌, ℕ, List, length, Option, None, Some, if◌then◌else◌}
use Rattle.dbus_lines.specs.declared.gathered.Gathered.{Gathered}

-- its bytes, or none if it has more than it may have
abbrev pub gathered : {A : Type 0} → Gathered A → Option (List ℕ)
gathered g = if g.is_long then None else Some g.bytes.items

-- these are the bytes of a line of at most so many, and none those of a longer one
abbrev pub IsWithin : (most : ℕ) → (line : List ℕ) → Option (List ℕ) → Type 0
IsWithin most line (Some bytes) = (bytes ≡ line) × (length line ≤ most)
IsWithin most line None = most < length line
