use Rattle.std.proofs.Common.{◌≡◌, ◌⊎◌, ℕ, List, true}
use Rattle.std.specs.Option.{option_map}
use Rattle.dbus_match.specs.Matching.{IsThere}
use Rattle.dbus_rule_set.specs.Places.{IsAmong}
use Rattle.dbus_rule_set.specs.TextNumbers.{text_hash}
use Rattle.dbus_rule_set.proofs.GroupedTexts.{any_is}
use Rattle.dbus_rule_set.proofs.met.senders.Given as goal

-- the hash of the sender is among those so far, and that of each of its names, or the name is left
abbrev pub invariant-loop-name : goal.invariant-loop-name
invariant-loop-name l =
    let at = λ (v : List ℕ). IsAmong (text_hash v) l.hashes.items in
    record {
      own : (v : List ℕ) → IsThere (option_map (λ s. s.now) l.text) (λ w. v ≡ w) → at v;
      owned : (v : List ℕ) → any_is v l.initial.name-iterator ≡ true → at v ⊎ (any_is v l.name-iterator ≡ true);
    }
