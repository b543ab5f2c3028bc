use Rattle.std.proofs.Common.{◌≡◌, ℕ, ◌<◌, get_or, drop}
use Rattle.dbus_auth_lines.specs.Lines.{words}
use Rattle.dbus_auth_lines.proofs.words.space_count.Given as goal

abbrev pub invariant-loop-i : goal.invariant-loop-i
invariant-loop-i l = record { same_words : words (drop l.i l.bytes) ≡ words l.bytes; spaces : (k : ℕ) → k < l.i → get_or l.bytes k 0 ≡ 32 }
