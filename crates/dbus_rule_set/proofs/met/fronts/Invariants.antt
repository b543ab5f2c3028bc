use Rattle.std.proofs.Common.{◌≡◌, ℕ, ◌<◌, [], get_or, take}
use Rattle.dbus_rule_set.specs.Places.{IsAmong}
use Rattle.dbus_rule_set.specs.TextNumbers.{number_from, text_hash}
use Rattle.dbus_rule_set.proofs.met.fronts.Given as goal

-- the number so far, and the hashes of the fronts so far
abbrev pub invariant-loop-byte : goal.invariant-loop-byte
invariant-loop-byte l =
    record {
      number : l.number ≡ number_from 14695981039346656037 (take l.byte-index l.text);
      none : IsAmong (text_hash []) l.hashes.items;
      before : (k : ℕ) → k < l.byte-index → get_or l.text k 0 ≡ l.separator → IsAmong (text_hash (take k l.text)) l.hashes.items;
    }
