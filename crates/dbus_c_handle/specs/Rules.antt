-- The match rules that a handle keeps, each by what stands for it, whether they are asked as a bus
-- asks, the owners of names that it keeps with them, and what its calls do with these.
-- D-Bus Specification, "Match Rules".
use Rattle.std.specs.Prelude.{◌≡◌, ℕ, ◌+◌, List, [], Bool, false, Option, Some, None, Result, Ok, Err, String, string_bytes}
use Rattle.std.specs.FinSet.{empty}
use Rattle.std.specs.declared.alloc.Global.{Global}
use Rattle.std.specs.declared.alloc.AllocError.{AllocError}
use Rattle.dbus_message_model.specs.Messages.{MessageTree}
use Rattle.dbus_rule.specs.Rules.{SpellsRule, canonical}
use Rattle.dbus_rule.specs.RuleViews.{rule_pairs}
use Rattle.dbus_rule.specs.declared.rule.Rule.{Rule}
use Rattle.dbus_rule_set.specs.Held.{Collects, EntryMatches, EntryMayMatch, HoldsOfAny, held, given, asks_as_bus, rule_at, with_rule}
use Rattle.dbus_rule_set.specs.Owners.{OwnerSet, owned_anew}
use Rattle.dbus_rule_set.specs.declared.handle.RuleHandle.{RuleHandle}
use Rattle.dbus_c_handle.specs.declared.kept.Kept.{Kept}
use Rattle.dbus_c_handle.specs.declared.kept.Kept.TheVariants as kept

-- the rules that are kept
abbrev pub rules_of : Option Kept → List (RuleHandle × Rule Global)
rules_of (Some (kept.Rules s)) = held s.rules
rules_of _ = []

-- how many were added since the first of them
abbrev pub given_of : Option Kept → ℕ
given_of (Some (kept.Rules s)) = given s.rules
given_of _ = 0

-- whether they are asked as a bus asks them
abbrev pub as_bus_of : Option Kept → Bool
as_bus_of (Some (kept.Rules s)) = asks_as_bus s.rules
as_bus_of _ = false

-- the owners of names that are kept
abbrev pub owners_of : Option Kept → OwnerSet
owners_of (Some (kept.Rules s)) = s.owners
owners_of _ = empty

-- what stands for each of them that matches the message comes to a list
abbrev pub Finds : Option Kept → MessageTree → List RuleHandle → Type 0
Finds own m found = Collects (EntryMatches (as_bus_of own) m (owners_of own)) (rules_of own) [] found

-- some of them may match it, if this is known of who sends it
abbrev pub AnyMay : Option Kept → MessageTree → (known : Option (List ℕ)) → Type 0
AnyMay own m known = HoldsOfAny (EntryMayMatch (as_bus_of own) m known (owners_of own)) (rules_of own)

-- a rule comes to those that are kept, and this stands for it, which stood for none before
pub record AddsRule (rule : Rule Global) (old new : Option Kept) (h : RuleHandle) : Type 0 where
  pub added : rules_of new ≡ with_rule h rule (rules_of old)
  pub unheld : rule_at h (rules_of old) ≡ None
  pub number : h.number ≡ given_of old
  pub given : given_of new ≡ given_of old + 1
  pub asked : as_bus_of new ≡ as_bus_of old
  pub owners : owners_of new ≡ owners_of old

-- the rule that the text spells comes to them
abbrev pub Adds : List ℕ → (old new : Option Kept) → RuleHandle → Type 0
Adds w old new h = (rule : Rule Global) × SpellsRule w (rule_pairs rule) × AddsRule rule old new h

-- the rules stay, how they are asked, and the owners of names
pub record KeepsRules (old new : Option Kept) : Type 0 where
  pub rules : rules_of new ≡ rules_of old
  pub given : given_of new ≡ given_of old
  pub asked : as_bus_of new ≡ as_bus_of old
  pub owners : owners_of new ≡ owners_of old

-- a name has this owner from then on, or none if that is empty, and the rules stay
pub record SetsOwner (name owner : List ℕ) (old new : Option Kept) : Type 0 where
  pub owners : owners_of new ≡ owned_anew name owner (owners_of old)
  pub rules : rules_of new ≡ rules_of old
  pub given : given_of new ≡ given_of old
  pub asked : as_bus_of new ≡ as_bus_of old

-- the rules are asked as a bus asks them, or not, from then on, and stay, and the owners of names
pub record SetsAsBus (as_bus : Bool) (old new : Option Kept) : Type 0 where
  pub asked : as_bus_of new ≡ as_bus
  pub rules : rules_of new ≡ rules_of old
  pub given : given_of new ≡ given_of old
  pub owners : owners_of new ≡ owners_of old

-- what is kept that is no rules: a checker, an end of a handshake, or a side of a connection
abbrev pub other_of : Option Kept → Option Kept
other_of (Some (kept.Checker b)) = Some (kept.Checker b)
other_of (Some (kept.Handshake h)) = Some (kept.Handshake h)
other_of (Some (kept.Connection k)) = Some (kept.Connection k)
other_of _ = None

-- all that is kept stays
pub record KeepsAll (old new : Option Kept) : Type 0 where
  pub stay : KeepsRules old new
  pub other : other_of new ≡ other_of old

-- the rule's canonical text, or that memory ran out; of no rule nothing is answered
abbrev pub IsWritten : Option (Rule Global) → Option (Result (String Global) AllocError) → Type 0
IsWritten None answer = answer ≡ None
IsWritten (Some rule) None = ⊥
IsWritten (Some rule) (Some (Ok text)) = string_bytes text ≡ canonical (rule_pairs rule)
IsWritten (Some rule) (Some (Err e)) = Unit {0}
