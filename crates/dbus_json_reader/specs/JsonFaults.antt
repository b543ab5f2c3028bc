-- Why JSON spells no value or no message, and which token shows that.
-- RFC 8259.
use Rattle.std.specs.Prelude.{◌≡◌, ◌-◌, ◌^◌, ℕ, min}
use Rattle.dbus_json_reader.specs.declared.reasons.JsonReason.{JsonReason}
use Rattle.dbus_json_reader.specs.declared.unread.Broken.{Broken}
use Rattle.dbus_json_reader.specs.declared.unread.Unread.{Unread}
use Rattle.dbus_json_reader.specs.declared.unread.Unread.TheVariants.{Memory, Unspelled}

-- it is no want of memory
abbrev pub IsUnspelled : Unread → Type 0
IsUnspelled why = (broken : Broken) × (why ≡ Unspelled broken)

-- how a number of tokens is told: the greatest `usize` stands for more
abbrev pub counted : ℕ → ℕ
counted n = min n (2 ^ 64 - 1)

-- it is this reason, which the token shows before which so many stand
abbrev pub IsShown : Unread → (reason : JsonReason) → (at : ℕ) → Type 0
IsShown Memory reason at = ⊥
IsShown (Unspelled broken) reason at = (broken.reason ≡ reason) × (broken.at ≡ counted at)

-- it is one of these reasons, each at its token
abbrev pub IsOneOf : (JsonReason → ℕ → Type 0) → Unread → Type 0
IsOneOf F why = (reason : JsonReason) × (at : ℕ) × IsShown why reason at × F reason at
