-- The entries of a set under a place, those from there up to another one, and those of one kind.
use Rattle.std.proofs.Common.{◌≡◌, ◌⊎◌, ⊎_elim, inl, inr, ℕ, ◌+◌, ◌<◌, ◌≤◌, true, false, List, [], ◌∷◌, Some, None, Less, subst, arith, slice_index_or}
use Rattle.std.specs.List.{AllByRecursion, filter}
use Rattle.std.specs.List.Sorted.{IsStrictlySortedBy}
use Rattle.std.specs.Map.{keys_of}
use Rattle.std.proofs.lemmas.Bool.{both_ways, cases_lt}
use Rattle.std.proofs.lemmas.Map.Keys.{sorted_head, sorted_tail}
use Rattle.dbus_rule.specs.declared.rule.Rule.{Rule}
use Rattle.dbus_rule_set.specs.declared.handle.RuleHandle.{RuleHandle}
use Rattle.dbus_rule_set.specs.declared.kinds.Kinds.{Kinds}
use Rattle.dbus_rule_set.specs.Handles.{handle_cmp}
use Rattle.dbus_rule_set.specs.Places.{IsAmong, IsIndexed, IsNext}
use Rattle.dbus_rule_set.specs.Held.{Collects}
use Rattle.dbus_rule_set.specs.Searches.{IsUnder, IsUpTo, within}
use Rattle.dbus_rule_set.proofs.Orders.{under_before, within_is, is_within}
use Rattle.dbus_rule_set.proofs.Collected.{Parted, along, passed, joined}

module _ {A : Type 0} (P : RuleHandle × Rule A → Type 0) where
  -- P holds of an entry under a place
  abbrev pub Below : ℕ → ℕ → RuleHandle × Rule A → Type 0
  Below k h e = IsUnder k h e.0 × P e

  wider : (k h l i : ℕ) → IsUpTo k h l i → (q : RuleHandle) → IsUnder k h q → IsUnder l i q
  wider k h l i up q u =
      ⊎_elim
      (λ x. ⊎_elim (λ y. inl (omega (arith, x, y))) (λ y. let e : q.kind ≡ k = y.0 in inl (omega (arith, x, e))) u)
      (λ x. let d : k ≡ l = x.0 in let j : h ≤ i = x.1 in ⊎_elim (λ y. inl (omega (arith, d, y))) (λ y. let e : q.kind ≡ k = y.0 in let f : q.hash < h = y.1 in inr (omega (arith, d, e), omega (arith, j, f))) u)
      up

  later : (k h : ℕ) (a : RuleHandle) (es : List (RuleHandle × Rule A)) → (IsUnder k h a → ⊥) → AllByRecursion (λ y. handle_cmp a y ≡ Less) (keys_of es) → AllByRecursion (λ f. Below k h f → ⊥) es
  later k h a [] n s = tt
  later k h a (f ∷ fs) n s = (λ b. n (under_before k h a f.0 s.0 b.0), later k h a fs n s.1)

  parted : (k h l i : ℕ) (es : List (RuleHandle × Rule A)) → IsUpTo k h l i → IsStrictlySortedBy handle_cmp (keys_of es) → Parted (Below k h) (λ e. (within k h l i e.0 ≡ true) × P e) (Below l i) es
  parted k h l i [] up s = tt
  parted k h l i (e ∷ es) up s = (
    λ a. (wider k h l i up e.0 a.0, a.1),
    λ b. ((within_is k h l i e.0 b.0).1, b.1),
    λ c. ⊎_elim (λ u. inl (u, c.1)) (λ w. inr (w, c.1)) (is_within k h l i e.0 c.0),
    λ a b. (within_is k h l i e.0 b.0).0 a.0,
    λ b. later k h e.0 es (within_is k h l i e.0 b.0).0 (sorted_head handle_cmp e.0 (keys_of es) s),
    parted k h l i es up (sorted_tail handle_cmp e.0 (keys_of es) s),
  )

  -- after those under a place come those from there up to another one
  pub more_found : (k h l i : ℕ) (es ks : List (RuleHandle × Rule A)) (u v w : List RuleHandle) → IsUpTo k h l i → IsStrictlySortedBy handle_cmp (keys_of es) → ks ≡ filter (λ e. within k h l i e.0) es → Collects (Below k h) es u v → Collects P ks v w → Collects (Below l i) es u w
  more_found k h l i es ks u v w up s is c d =
      joined (Below k h) (λ e. (within k h l i e.0 ≡ true) × P e) (Below l i) es u v w (parted k h l i es up s) c
      (passed P (λ e. within k h l i e.0) es v w (subst (λ xs. Collects P xs v w) is d))

  -- those of the kind have one of these hashes
  abbrev pub HaveHashes : ℕ → List ℕ → List (RuleHandle × Rule A) → Type 0
  HaveHashes k hs es = AllByRecursion (λ e. P e → e.0.kind ≡ k → IsAmong e.0.hash hs) es

  -- from a number up to the next hash there are none
  up_to_next : (k from n : ℕ) (hs : List ℕ) (es : List (RuleHandle × Rule A)) → from ≤ n → ((h : ℕ) → IsAmong h hs → (h < from) ⊎ (n ≤ h)) → HaveHashes k hs es → AllByRecursion (λ e. (Below k from e → Below k n e) × (Below k n e → Below k from e)) es
  up_to_next k from n hs [] up next all = tt
  up_to_next k from n hs (e ∷ es) up next all = (
    (
      λ b. (⊎_elim (λ x. inl x) (λ x. let f : e.0.hash < from = x.1 in inr (x.0, omega (arith, f, up))) b.0, b.1),
      λ b. (⊎_elim (λ x. inl x) (λ x. inr (x.0, ⊎_elim (λ y. y) (λ y. let f : e.0.hash < n = x.1 in absurd (omega (arith, f, y))) (next e.0.hash (all.0 b.1 x.0)))) b.0, b.1),
    ),
    up_to_next k from n hs es up next all.1,
  )

  pub skipped_to : (k from n : ℕ) (hs : List ℕ) (es : List (RuleHandle × Rule A)) (u v : List RuleHandle) → IsNext from (Some n) hs → HaveHashes k hs es → Collects (Below k from) es u v → Collects (Below k n) es u v
  skipped_to k from n hs es u v next all c = along (Below k from) (Below k n) es u v (up_to_next k from n hs es next.0 next.1 all) c

  of_kind : (k from : ℕ) (hs : List ℕ) (e : RuleHandle × Rule A) → IsNext from None hs → (P e → e.0.kind ≡ k → IsAmong e.0.hash hs) → P e → e.0.kind < k + 1 → IsUnder k from e.0
  of_kind k from hs e next has p l = ⊎_elim (λ x. inl x) (λ x. let is : e.0.kind ≡ k = omega (arith, l, x) in inr (is, next e.0.hash (has p is))) (cases_lt e.0.kind k)

  -- after the last hash there are none of the kind
  past_last : (k from : ℕ) (hs : List ℕ) (es : List (RuleHandle × Rule A)) → IsNext from None hs → HaveHashes k hs es → AllByRecursion (λ e. (Below k from e → Below (k + 1) 0 e) × (Below (k + 1) 0 e → Below k from e)) es
  past_last k from hs [] next all = tt
  past_last k from hs (e ∷ es) next all = (
    (
      λ b. (⊎_elim (λ x. inl (omega (arith, x))) (λ x. let q : e.0.kind ≡ k = x.0 in inl (omega (arith, q))) b.0, b.1),
      λ b. (⊎_elim (λ x. of_kind k from hs e next all.0 b.1 x) (λ x. let f : e.0.hash < 0 = x.1 in absurd (omega (arith, f))) b.0, b.1),
    ),
    past_last k from hs es next all.1,
  )

  pub skipped_past : (k from : ℕ) (hs : List ℕ) (es : List (RuleHandle × Rule A)) (u v : List RuleHandle) → IsNext from None hs → HaveHashes k hs es → Collects (Below k from) es u v → Collects (Below (k + 1) 0) es u v
  skipped_past k from hs es u v next all c = along (Below k from) (Below (k + 1) 0) es u v (past_last k from hs es next all) c

  -- of a kind that is not used there are none
  unused : (k : ℕ) (kinds : Kinds) (es : List (RuleHandle × Rule A)) → slice_index_or kinds.used k false ≡ false → AllByRecursion (IsIndexed kinds) es → HaveHashes k [] es
  unused k kinds [] f all = tt
  unused k kinds (e ∷ es) f all = (λ p q. both_ways (slice_index_or kinds.used k false) f (subst (λ j. slice_index_or kinds.used j false ≡ true) q all.0.0), unused k kinds es f all.1)

  pub skipped_kind : (k : ℕ) (kinds : Kinds) (es : List (RuleHandle × Rule A)) (u v : List RuleHandle) → slice_index_or kinds.used k false ≡ false → AllByRecursion (IsIndexed kinds) es → Collects (Below k 0) es u v → Collects (Below (k + 1) 0) es u v
  skipped_kind k kinds es u v f all c = skipped_past k 0 [] es u v (λ h i. absurd i) (unused k kinds es f all) c

  -- no handle is under the first place, and all are under that past the last kind
  pub none_below : (es : List (RuleHandle × Rule A)) → AllByRecursion (λ e. Below 0 0 e → ⊥) es
  none_below [] = tt
  none_below (e ∷ es) = (λ b. ⊎_elim (λ x. omega (arith, x)) (λ x. let m : e.0.hash < 0 = x.1 in omega (arith, m)) b.0, none_below es)

  pub all_below : (kinds : Kinds) (es : List (RuleHandle × Rule A)) → AllByRecursion (IsIndexed kinds) es → AllByRecursion (λ e. (Below 137 0 e → P e) × (P e → Below 137 0 e)) es
  all_below kinds [] all = tt
  all_below kinds (e ∷ es) all = ((λ b. b.1, λ p. (inl all.0.1.0, p)), all_below kinds es all.1)
