-- Of each rule and message it is decided whether the rule may match it.
use Rattle.std.proofs.Common.{◌≡◌, ℕ, ◌⊎◌, Bool, true, false, List, [], ◌∷◌, Option, None, Some, inl, inr, refl}
use Rattle.std.proofs.lemmas.Bool.{cases_eq, false≢true}
use Rattle.std.specs.Bool.{Decides}
use Rattle.dbus_message_model.specs.Messages.{MessageTree}
use Rattle.dbus_rule.specs.declared.key.Key.{Key}
use Rattle.dbus_rule.specs.declared.key.Key.TheVariants.{Sender, Interface, Destination}
use Rattle.dbus_rule.specs.declared.rule.Rule.{Rule}
use Rattle.dbus_rule.specs.Rules.{Pair}
use Rattle.dbus_rule.specs.RuleViews.{rule_pairs}
use Rattle.dbus_rule.proofs.PairChoices.{Either, both, one_of, same}
use Rattle.dbus_match.specs.Matching.{IsOwned, IsThere, OtherHolds, Ownership}
use Rattle.dbus_match.specs.TakenFor.{AreOne, EachMayHold, MayBeSent, MayHold, MayMatch, Names, Shares, for_whom, text_at}
use Rattle.dbus_match.proofs.Decided.{decided}
use Rattle.dbus_match.proofs.TakenFor.{may_match, one_by, one_found}

either_map : {P Q : Type 0} → (P → Q) → (Q → P) → Either P → Either Q
either_map f g (inl p) = inl (f p)
either_map f g (inr n) = inr (λ q. n (g q))

owned : (os : List Ownership) (v u : List ℕ) → Either (IsOwned os v u)
owned [] v u = inr (λ h. h)
owned (o ∷ os) v u = one_of (both (same o.name v) (same o.unique u)) (owned os v u)

names : (os : List Ownership) (v u : List ℕ) → Either (Names os v u)
names os v u = one_of (same v u) (owned os v u)

shares : (os us : List Ownership) (v w : List ℕ) → Either (Shares os us v w)
shares os [] v w = inr (λ h. h)
shares os (o ∷ us) v w = one_of (both (same o.name v) (names os w o.unique)) (shares os us v w)

are_one : (os : List Ownership) (v w : List ℕ) → Either (AreOne os v w)
are_one os v w = either_map (one_by os v w) (one_found os v w) (one_of (names os w v) (shares os os v w))

there : (o : Option (List ℕ)) (P : List ℕ → Type 0) → ((w : List ℕ) → Either (P w)) → Either (IsThere o P)
there None P each = inr (λ h. h)
there (Some w) P each = each w

absent : (o : Option (List ℕ)) → Either (o ≡ None)
absent None = inl refl
absent (Some w) = inr (λ e. absurd cc)

sent : (v : List ℕ) (known : Option (List ℕ)) (os : List Ownership) → Either (MayBeSent v known os)
sent v None os = inl tt
sent v (Some s) os = names os v s

module _ (m : MessageTree) (known : Option (List ℕ)) (os : List Ownership) where
  -- a key that asks for no owners holds as a rule of it alone matches
  other : (k : Key) (v : List ℕ) → Either (OtherHolds k v m)
  other Sender v = inl tt
  other k v = either_map (λ h. h.0) (λ h. (h, tt)) (decided (record { key = k; value = v } ∷ []) m [])

  may_hold : (k : Key) (v : List ℕ) → Either (MayHold k v m known os)
  may_hold Sender v = sent v known os
  may_hold Interface v = one_of (there (text_at 2 m) (λ w. v ≡ w) (λ w. same v w)) (both (cases_eq m.kind 1) (absent (text_at 2 m)))
  may_hold Destination v = there (for_whom m.kind (text_at 6 m)) (λ w. AreOne os v w) (λ w. are_one os v w)
  may_hold k v = other k v

  each_may : (ps : List Pair) → Either (EachMayHold ps m known os)
  each_may [] = inl tt
  each_may (p ∷ ps) = both (may_hold p.key p.value) (each_may ps)

  by_bool : {A : Type 0} (rule : Rule A) → Either (EachMayHold (rule_pairs rule) m known os) → Either (∥ MayMatch (rule_pairs rule) m known os ∥₁)
  by_bool rule (inl h) = inl ((may_match m known os rule true (λ t. h, λ e. refl)).0 refl)
  by_bool rule (inr n) = inr (λ h. false≢true ((may_match m known os rule false (λ t. absurd (false≢true t), λ e. absurd (n e))).1 h))

  pub may_decided : {A : Type 0} (rule : Rule A) → Either (∥ MayMatch (rule_pairs rule) m known os ∥₁)
  may_decided rule = by_bool rule (each_may (rule_pairs rule))
