-- What the caller's bytes have of a text that is written to their start.
use Rattle.std.specs.Prelude.{◌≡◌, ◌↔◌, ℕ, ◌+◌, ◌≤◌, List, ◌++◌, length, take, drop, min, false}
use Rattle.dbus_room.specs.declared.room.Room.{Room}

-- what they have so far
abbrev pub text_so_far : Room → List ℕ
text_so_far r = take r.len r.bytes.now

-- they have nothing of the text yet
pub record Begins (bytes : List ℕ) (r : Room) : Type 0 where
  pub bytes_are : r.bytes.now ≡ bytes
  pub none : r.len ≡ 0
  pub whole : r.is_cut ≡ false

-- A text comes after the one so far, as much of it as there is room for; the bytes behind that
-- stay. It is cut if that is not all, or if the one so far is.
pub record Gains (before : Room) (text : List ℕ) (after : Room) : Type 0 where
  pub same : after.bytes.ghost_name ≡ before.bytes.ghost_name
  pub size : length after.bytes.now ≡ length before.bytes.now
  pub written : text_so_far after ≡ take (length before.bytes.now) (text_so_far before ++ text)
  pub long : after.len ≡ min (before.len + length text) (length before.bytes.now)
  pub behind : drop after.len after.bytes.now ≡ drop after.len before.bytes.now
  pub whole : (after.is_cut ≡ false) ↔ ((before.is_cut ≡ false) × (before.len + length text ≤ length before.bytes.now))
