-- Keys that rise are as many as the numbers among them.
use Rattle.std.proofs.Common.{◌≡◌, ◌≢◌, ◌<◌, ◌≤◌, ◌+◌, ◌⊎◌, ℕ, zero, suc, List, [], ◌∷◌, true, refl, sym, ◌∙◌, arith, inl, inr}
use Rattle.std.proofs.Common.{Option, Some, None, IsSome, MatchOption, length}
use Rattle.std.specs.List.{AllByRecursion, list_any}
use Rattle.std.specs.List.Sorted.{IsStrictlySortedBy}
use Rattle.std.specs.BTreeMap.{BTreeMap, IsOrdered, get, is_at, btree_map_len}
use Rattle.std.specs.Map.{keys_of}
use Rattle.std.specs.Ordering.{nat_cmp}
use Rattle.std.specs.declared.cmp.Ordering.TheVariants.{Less, Equal, Greater}
use Rattle.std.proofs.lemmas.Cmp.{ranked}
use Rattle.std.proofs.lemmas.Map.Entries.{length-keys_of}
use Rattle.std.proofs.lemmas.Map.Keys.{sorted_head, sorted_tail}
use Rattle.std.proofs.lemmas.Map.Made.{is_some-lookup}
use Rattle.dbus_pending.specs.Serials.{AllWait}

abbrev Has : List ℕ → ℕ → Type 0
Has keys s = list_any (is_at (nat_cmp s)) keys ≡ true

-- a key among some is the first or among the others
parted : (s k : ℕ) (keys : List ℕ) → Has (k ∷ keys) s → (s ≡ k) ⊎ Has keys s
parted s k keys h = by_order (nat_cmp s k) refl
  where
    by_order : (o : _) → o ≡ nat_cmp s k → (s ≡ k) ⊎ Has keys s
    by_order Less e = inr (grind (arith, h, e))
    by_order Equal e = inl (ranked s k Equal e)
    by_order Greater e = inr (grind (arith, h, e))

above : (s k : ℕ) (keys : List ℕ) → AllByRecursion (λ y. nat_cmp k y ≡ Less) keys → Has keys s → k < s
above s k [] all h = absurd (cc h)
above s k (y ∷ keys) all h = elim (parted s y keys h) [
  | inl e ↦ (let less : k < y = ranked k y Less (sym all.0) in omega arith)
  | inr more ↦ above s k keys all.1 more
]

covered : (keys : List ℕ) (behind n : ℕ) → IsStrictlySortedBy nat_cmp keys
    → ((s : ℕ) → behind < s → s ≤ behind + n → Has keys s) → n ≤ length keys
covered keys behind zero o h = omega arith
covered [] behind (suc n) o h = absurd (cc (h (behind + 1) (omega arith) (omega arith)))
covered (k ∷ keys) behind (suc n) o h = elim (parted (behind + 1) k keys (h (behind + 1) (omega arith) (omega arith))) [
  | inl e ↦
      (let more : n ≤ length keys = covered keys (behind + 1) n rest (λ s b t. others s (omega arith) (h s (omega arith) (omega arith))) in
      omega arith)
  | inr there ↦
      (let before : k < behind + 1 = above (behind + 1) k keys (sorted_head nat_cmp k keys o) there in
      let more : suc n ≤ length keys = covered keys behind (suc n) rest (λ s b t. others s (omega arith) (h s b t)) in omega arith)
]
  where
    rest : IsStrictlySortedBy nat_cmp keys
    rest = sorted_tail nat_cmp k keys o

    others : (s : ℕ) → s ≢ k → Has (k ∷ keys) s → Has keys s
    others s differ there = elim (parted s k keys there) [ inl e ↦ absurd (differ e) | inr more ↦ more ]

-- not all serials are those of calls that wait if few do
some_free : {T : Type 0} (calls : BTreeMap ℕ T) → IsOrdered nat_cmp calls → btree_map_len calls < 65536
    → AllWait (get nat_cmp calls) 0 → ⊥
some_free calls o few all =
    let found = λ (s : ℕ). is_some-lookup (is_at (nat_cmp s)) calls.entries in
    let n : 4294967295 ≤ length (keys_of calls.entries) =
    covered (keys_of calls.entries) 0 4294967295 o (λ s b t. sym (found s) ∙ all s b (omega arith)) in
    let same : length (keys_of calls.entries) ≡ length calls.entries = length-keys_of calls.entries in
    omega arith

-- so the first one that is free is found
pub is_found : {T : Type 0} (calls : BTreeMap ℕ T) (P : ℕ → Type 0) (found : Option ℕ) → IsOrdered nat_cmp calls
    → btree_map_len calls < 65536 → MatchOption found (AllWait (get nat_cmp calls) 0) P → IsSome found
is_found calls P None o few h = absurd (some_free calls o few h)
is_found calls P (Some serial) o few h = refl
