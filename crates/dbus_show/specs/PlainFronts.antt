-- How far a text is plain: no character of it is escaped.
use Rattle.std.specs.Prelude.{◌≡◌, ℕ, List, ◌++◌, Bool, true, chars, encode_utf8, drop, take, ◌||◌, nat_eq, nat_lt, IsCharBoundary}
use Rattle.std.specs.Str.{NonePass}
use Rattle.dbus_show.specs.Escapes.{is_escaped}
use Rattle.dbus_show.specs.declared.escapes.Escapes.{Escapes}
use Rattle.dbus_show.specs.declared.runs.Beyond.{Beyond}
use Rattle.dbus_show.specs.declared.runs.Beyond.TheVariants.{Each, Leads}

-- bytes beyond ASCII: all of them, or the first bytes of hidden characters in UTF-8
abbrev pub is_beyond : Beyond → ℕ → Bool
is_beyond Each b = nat_lt 127 b
is_beyond Leads b = nat_eq b 0xC2 || nat_eq b 0xD8 || nat_eq b 0xE1 || nat_eq b 0xE2 || nat_eq b 0xEF || nat_eq b 0xF3

-- a byte at which a run of plain ones ends
abbrev pub is_stop : Beyond → ℕ → Bool
is_stop beyond b = (nat_lt b 32 || is_beyond beyond b) || (nat_eq b 34 || nat_eq b 92 || nat_eq b 127)

-- whole characters take the first n bytes, and none of them is escaped
pub record IsPlainFront (escapes : Escapes) (text : List ℕ) (n : ℕ) : Type 0 where
  pub place : IsCharBoundary text n
  pub plain : NonePass (is_escaped escapes) (chars (take n text))

-- the character at a place, if one is there, is escaped
abbrev pub IsEscapedAt : Escapes → (text : List ℕ) → ℕ → Type 0
IsEscapedAt escapes text n = (c : ℕ) (rest : List ℕ) → drop n text ≡ encode_utf8 c ++ rest → is_escaped escapes c ≡ true
