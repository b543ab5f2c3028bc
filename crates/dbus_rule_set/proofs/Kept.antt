-- The entries of a set, with one more and with one less.
use Rattle.std.proofs.Common.{◌≡◌, ℕ, ◌<◌, Bool, true, List, [], ◌∷◌, None, Ordering, Less, Equal, Greater, refl, ◌∙◌, arith}
use Rattle.std.specs.List.{AllByRecursion}
use Rattle.std.specs.Ordering.{is_eq, match_ordering}
use Rattle.std.specs.Map.{remove_entry}
use Rattle.std.proofs.lemmas.Bool.{cond_both, cond-false, false_from_ne_true}
use Rattle.dbus_rule.specs.declared.rule.Rule.{Rule}
use Rattle.dbus_rule_set.specs.declared.handle.RuleHandle.{RuleHandle}
use Rattle.dbus_rule_set.specs.declared.kinds.Kinds.{Kinds}
use Rattle.dbus_rule_set.specs.Handles.{handle_cmp}
use Rattle.dbus_rule_set.specs.Places.{IsIndexed, IsKept, Stands}
use Rattle.dbus_rule_set.specs.Held.{rule_at, with_rule}
use Rattle.dbus_rule_set.proofs.Orders.{same_number}

-- a new handle is none of those that are held
new_differs : {A : Type 0} (n : ℕ) (h : RuleHandle) (e : RuleHandle × Rule A) → h.number ≡ n → IsKept n e → handle_cmp h e.0 ≡ Equal → ⊥
new_differs n h e f k q = let s : h.number ≡ e.0.number = same_number h e.0 q in let l : e.0.number < n = k in absurd (omega (arith, s, l, f))

equal_from : (o : Ordering) → is_eq o ≡ true → o ≡ Equal
equal_from Less h = cc
equal_from Equal h = refl
equal_from Greater h = cc

pub unheld : {A : Type 0} (n : ℕ) (h : RuleHandle) (es : List (RuleHandle × Rule A)) → h.number ≡ n → AllByRecursion (IsKept n) es → rule_at h es ≡ None
unheld n h [] f k = refl
unheld n h (e ∷ es) f k = cond-false _ _ _ (false_from_ne_true _ (λ t. new_differs n h e f k.0 (equal_from _ t))) ∙ unheld n h es f k.1

-- with a new rule, what holds of the rules before, as Q, and of the new one holds of all, as R
pub with_more : {A : Type 0} (Q R : RuleHandle × Rule A → Type 0) (n : ℕ) (h : RuleHandle) (r : Rule A) (es : List (RuleHandle × Rule A)) → ((e : RuleHandle × Rule A) → Q e → R e) → R (h, r) → h.number ≡ n
    → AllByRecursion (IsKept n) es → AllByRecursion Q es → AllByRecursion R (with_rule h r es)
with_more Q R n h r [] up here f k q = (here, tt)
with_more Q R n h r (e ∷ es) up here f k q =
    let split : (o : Ordering) → handle_cmp h e.0 ≡ o → AllByRecursion R (match_ordering o ((h, r) ∷ e ∷ es) ((e.0, r) ∷ es) (e ∷ with_rule h r es)) =
    elim [ Less ↦ λ o. (here, all_up Q R (e ∷ es) up q) | Equal ↦ λ o. absurd (new_differs n h e f k.0 o) | Greater ↦ λ o. (up e q.0, with_more Q R n h r es up here f k.1 q.1) ] in
    split (handle_cmp h e.0) refl
  where
    all_up : {A : Type 0} (Q R : RuleHandle × Rule A → Type 0) (es : List (RuleHandle × Rule A)) → ((e : RuleHandle × Rule A) → Q e → R e) → AllByRecursion Q es → AllByRecursion R es
    all_up Q R [] up q = tt
    all_up Q R (e ∷ es) up q = (up e q.0, all_up Q R es up q.1)

pub kept_less : {A : Type 0} (P : RuleHandle × Rule A → Type 0) (test : RuleHandle → Bool) (es : List (RuleHandle × Rule A)) → AllByRecursion P es → AllByRecursion P (remove_entry test es)
kept_less P test [] k = tt
kept_less P test (e ∷ es) k = cond_both (test e.0) es (e ∷ remove_entry test es) (λ xs. AllByRecursion P xs) (λ _. k.1) (λ _. (k.0, kept_less P test es k.1))

-- the entries of an index stand where they have to
pub standing : {A : Type 0} (kinds : Kinds) (es : List (RuleHandle × Rule A)) → AllByRecursion (IsIndexed kinds) es → AllByRecursion Stands es
standing kinds [] all = tt
standing kinds (e ∷ es) all = (all.0.1, standing kinds es all.1)
