use Rattle.std.proofs.Common.{◌≡◌, drop}
use Rattle.dbus_rule_set.specs.TextNumbers.{number_from}
use Rattle.dbus_rule_set.proofs.numbers.text_hash.Given as goal

-- the number so far goes on to that of the text
abbrev pub invariant-loop-byte : goal.invariant-loop-byte
invariant-loop-byte l = number_from l.number (drop l.byte-index l.text) ≡ number_from 14695981039346656037 l.text
