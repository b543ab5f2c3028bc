use Rattle.std.proofs.Common.{◌≡◌, ℕ, List, true}
use Rattle.dbus_match.specs.Matching.{IsOwned}
use Rattle.dbus_match.specs.TakenFor.{Names}
use Rattle.dbus_rule_set.specs.Owners.{owners_in}
use Rattle.dbus_rule_set.proofs.GroupedTexts.{any_is}
use Rattle.dbus_rule_set.proofs.known_owners.shares.Given as goal

-- those left are owners of the name, and so are all that have the other name
abbrev pub invariant-loop-unique : goal.invariant-loop-unique
invariant-loop-unique l = record {
  own : (u : List ℕ) → any_is u l.unique-iterator ≡ true → IsOwned (owners_in l.owners) l.name u;
  left : (u : List ℕ) → IsOwned (owners_in l.owners) l.name u → Names (owners_in l.owners) l.other u → any_is u l.unique-iterator ≡ true;
}
