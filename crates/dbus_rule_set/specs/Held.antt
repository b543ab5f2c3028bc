-- What a set of rules holds, and what it finds for a message.
-- D-Bus Specification, "Match Rules".
use Rattle.std.specs.Prelude.{◌≡◌, ℕ, ◌⊎◌, List, [], ◌∷◌, ◌++◌, Bool, IsTrue, Option}
use Rattle.std.specs.BTreeMap.{is_at, insert_entry}
use Rattle.std.specs.List.Sorted.{IsStrictlySortedBy}
use Rattle.std.specs.Map.{keys_of, lookup, remove_entry}
use Rattle.dbus_message_model.specs.Messages.{MessageTree}
use Rattle.dbus_rule.specs.declared.rule.Rule.{Rule}
use Rattle.dbus_rule.specs.RuleViews.{rule_pairs}
use Rattle.dbus_match.specs.Matching.{Matches}
use Rattle.dbus_match.specs.TakenFor.{MayMatch}
use Rattle.dbus_rule_set.specs.declared.handle.RuleHandle.{RuleHandle}
use Rattle.dbus_rule_set.specs.declared.rule_set.RuleSet.{RuleSet}
use Rattle.dbus_rule_set.specs.Eavesdropping.{is_asked}
use Rattle.dbus_rule_set.specs.Handles.{handle_cmp}
use Rattle.dbus_rule_set.specs.Owners.{OwnerSet, owners_in}

-- the rules of a set, each with its handle, in the order of the handles
abbrev pub held : {A : Type 0} → RuleSet A → List (RuleHandle × Rule A)
held s = s.rules.entries

-- whether its rules are asked as a bus asks them
abbrev pub asks_as_bus : {A : Type 0} → RuleSet A → Bool
asks_as_bus s = s.as_bus

-- how many handles the set gave; each has a number below that
abbrev pub given : {A : Type 0} → RuleSet A → ℕ
given s = s.next

-- the rule that a handle stands for
abbrev pub rule_at : {A : Type 0} → RuleHandle → List (RuleHandle × Rule A) → Option (Rule A)
rule_at h es = lookup (is_at (handle_cmp h)) es

-- with a rule, in its handle's place
abbrev pub with_rule : {A : Type 0} → RuleHandle → Rule A → List (RuleHandle × Rule A) → List (RuleHandle × Rule A)
with_rule h r es = insert_entry handle_cmp es h r

-- without the rule of a handle
abbrev pub without : {A : Type 0} → RuleHandle → List (RuleHandle × Rule A) → List (RuleHandle × Rule A)
without h es = remove_entry (is_at (handle_cmp h)) es

-- each handle stands once, since each is above those before it
abbrev pub AreApart : {A : Type 0} → List (RuleHandle × Rule A) → Type 0
AreApart es = IsStrictlySortedBy handle_cmp (keys_of es)

-- the rule is asked of the message, as a bus asks or not, and matches it, with these owners of names
abbrev pub EntryMatches : {A : Type 0} → (as_bus : Bool) → MessageTree → OwnerSet → RuleHandle × Rule A → Type 0
EntryMatches as_bus m os e = IsTrue (is_asked as_bus m (rule_pairs e.1)) × Matches (rule_pairs e.1) m (owners_in os)

-- it is asked of it, and may match it, if this is known of who sends it
abbrev pub EntryMayMatch : {A : Type 0} → (as_bus : Bool) → MessageTree → (known : Option (List ℕ)) → OwnerSet → RuleHandle × Rule A → Type 0
EntryMayMatch as_bus m known os e = IsTrue (is_asked as_bus m (rule_pairs e.1)) × ∥ MayMatch (rule_pairs e.1) m known (owners_in os) ∥₁

-- in order, the handle of each rule of which P holds comes to the end of a list, and no other
abbrev pub Collects : {A : Type 0} → (RuleHandle × Rule A → Type 0) → List (RuleHandle × Rule A) → List RuleHandle → List RuleHandle → Type 0
Collects P [] from to = to ≡ from
Collects P (e ∷ es) from to = (P e × Collects P es (from ++ e.0 ∷ []) to) ⊎ ((P e → ⊥) × Collects P es from to)

-- P holds of an entry, or of several
abbrev pub HoldsOfAny : {A : Type 0} → (RuleHandle × Rule A → Type 0) → List (RuleHandle × Rule A) → Type 0
HoldsOfAny P [] = ⊥
HoldsOfAny P (e ∷ es) = P e ⊎ HoldsOfAny P es
