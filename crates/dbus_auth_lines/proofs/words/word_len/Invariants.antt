use Rattle.std.proofs.Common.{◌≡◌, ◌≢◌, ℕ, ◌+◌, ◌<◌, get_or, length, drop}
use Rattle.dbus_auth_lines.specs.Lines.{command_name}
use Rattle.dbus_auth_lines.proofs.words.word_len.Given as goal

abbrev pub invariant-loop-i : goal.invariant-loop-i
invariant-loop-i l = record { is : l.i + length (command_name (drop l.i l.bytes)) ≡ length (command_name l.bytes); no_space : (k : ℕ) → k < l.i → get_or l.bytes k 0 ≢ 32 }
