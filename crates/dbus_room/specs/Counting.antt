-- A draft that counts.
use Rattle.std.specs.Prelude.{◌≡◌, ℕ, ◌+◌, ◌-◌, ◌^◌, List, length, min}
use Rattle.dbus_room.specs.declared.counted.Counted.{Counted}

-- a number of bytes; or the greatest number of 64 bits, if it is over that
abbrev pub counted : ℕ → ℕ
counted n = min n (2 ^ 64 - 1)

-- the draft below gains the text, whose bytes are counted behind those so far
pub record Counts {D : Type 0} (gains : D → List ℕ → D → Type 0) (before : Counted D) (text : List ℕ) (after : Counted D) : Type 0 where
  pub same : after.draft.ghost_name ≡ before.draft.ghost_name
  pub gained : gains before.draft.now text after.draft.now
  pub long : after.len ≡ counted (before.len + length text)
