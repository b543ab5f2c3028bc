-- Which serial the next message has. D-Bus Specification, "Message Format" (the serial: it must not
-- be zero).
use Rattle.std.specs.Prelude.{◌<◌, ◌^◌, ◌⊎◌, ℕ, Option, IsSome, IsNone}

-- Of each serial the call that waits with it, if one does.
module _ {T : Type 0} (waiting : ℕ → Option T) where
  -- with each serial behind this one a call waits
  abbrev pub AllWait : (behind : ℕ) → Type 0
  AllWait behind = (s : ℕ) → behind < s → s < 2 ^ 32 → IsSome (waiting s)

  -- it is the first serial behind this one that no call waits with
  pub record IsFirstFree (behind serial : ℕ) : Type 0 where
    pub above : behind < serial
    pub fits : serial < 2 ^ 32
    pub free : IsNone (waiting serial)
    pub first : (s : ℕ) → behind < s → s < serial → IsSome (waiting s)

  -- it is the first of these behind the last serial, or the first from 1 on if there is none
  abbrev pub IsNext : (last serial : ℕ) → Type 0
  IsNext last serial = IsFirstFree last serial ⊎ (AllWait last × IsFirstFree 0 serial)
