-- The order of handles, and the handles from one place up to another.
use Rattle.std.proofs.Common.{◌≡◌, ◌⊎◌, ⊎_elim, inl, inr, ℕ, ◌<◌, ◌≤◌, Bool, true, false, not, Ordering, Less, Equal, Greater, refl, sym, ap, ◌∙◌, arith}
use Rattle.std.specs.Bool.{Decides}
use Rattle.std.specs.Ordering.{nat_cmp, ordering_then, is_le, is_gt}
use Rattle.std.proofs.lemmas.Bool.{and_parts, and_from, both_ways, cases_Bool}
use Rattle.std.proofs.lemmas.Cmp.{ranked, by_ranked}
use Rattle.std.proofs.lemmas.Map.Keys.{le_from_is_le}
use Rattle.std.proofs.lemmas.Map.Lookups.{exact_unsigned}
use Rattle.dbus_rule_set.specs.declared.handle.RuleHandle.{RuleHandle}
use Rattle.dbus_rule_set.specs.Handles.{handle_cmp}
use Rattle.dbus_rule_set.specs.Searches.{IsUnder, IsUpTo, place, within}

then_equal : (o r : Ordering) → ordering_then o r ≡ Equal → r ≡ Equal
then_equal Less r h = cc
then_equal Equal r h = h
then_equal Greater r h = cc

then_less : (o r : Ordering) → ordering_then o r ≡ Less → is_le o ≡ true
then_less Less r h = refl
then_less Equal r h = refl
then_less Greater r h = cc

pub same_number : (a b : RuleHandle) → handle_cmp a b ≡ Equal → a.number ≡ b.number
same_number a b h = exact_unsigned a.number b.number (then_equal (nat_cmp a.hash b.hash) _ (then_equal (nat_cmp a.kind b.kind) _ h))

-- a handle that is under a place has those before it under it too
rises : (a b : RuleHandle) → handle_cmp a b ≡ Less → (a.kind < b.kind) ⊎ ((a.kind ≡ b.kind) × (a.hash ≤ b.hash))
rises a b h =
    let hashes = ordering_then (nat_cmp a.hash b.hash) (nat_cmp a.number b.number) in
    by_ranked (a.kind < b.kind) (a.kind ≡ b.kind) (b.kind < a.kind) (nat_cmp a.kind b.kind) (ranked a.kind b.kind (nat_cmp a.kind b.kind) refl)
    (λ o l. inl l)
    (λ o e. inr (e, le_from_is_le a.hash b.hash (then_less (nat_cmp a.hash b.hash) (nat_cmp a.number b.number) (sym (ap (λ x. ordering_then x hashes) o) ∙ h))))
    (λ o g. let q : Greater ≡ Less = sym (ap (λ x. ordering_then x hashes) o) ∙ h in cc)

pub under_before : (k h : ℕ) (a b : RuleHandle) → handle_cmp a b ≡ Less → IsUnder k h b → IsUnder k h a
under_before k h a b o u =
    ⊎_elim
    (λ l. ⊎_elim (λ x. inl (omega (arith, l, x))) (λ x. let e : b.kind ≡ k = x.0 in inl (omega (arith, l, e))) u)
    (λ q. let s : a.kind ≡ b.kind = q.0 in let m : a.hash ≤ b.hash = q.1 in
    ⊎_elim (λ x. inl (omega (arith, s, x))) (λ x. let f : b.hash < h = x.1 in inr (s ∙ x.0, omega (arith, m, f))) u)
    (rises a b o)

not_so : (b : Bool) (P : Type 0) → b ≡ false → (P → ⊥) → Decides b P
not_so b P f n = (λ t. absurd (both_ways b f t), λ p. absurd (n p))

so : (b : Bool) (P : Type 0) → b ≡ true → P → Decides b P
so b P t p = (λ _. p, λ _. t)

not_under : (k h : ℕ) (q : RuleHandle) → Decides (not (is_le (handle_cmp (place k h) q))) (IsUnder k h q)
not_under k h q =
    let numbers = nat_cmp 0 q.number in
    let hashes = ordering_then (nat_cmp h q.hash) numbers in
    let b = not (is_le (handle_cmp (place k h) q)) in
    by_ranked (k < q.kind) (k ≡ q.kind) (q.kind < k) (nat_cmp k q.kind) (ranked k q.kind (nat_cmp k q.kind) refl)
    (λ o l. not_so b (IsUnder k h q) (ap (λ x. not (is_le (ordering_then x hashes))) o) (λ u. ⊎_elim (λ x. omega (arith, l, x)) (λ x. let e : q.kind ≡ k = x.0 in omega (arith, l, e)) u))
    (λ o e.
    let here = ap (λ x. not (is_le (ordering_then x hashes))) o in
    by_ranked (h < q.hash) (h ≡ q.hash) (q.hash < h) (nat_cmp h q.hash) (ranked h q.hash (nat_cmp h q.hash) refl)
    (λ p l. not_so b (IsUnder k h q) (here ∙ ap (λ x. not (is_le (ordering_then x numbers))) p) (λ u. ⊎_elim (λ x. omega (arith, e, x)) (λ x. let m : q.hash < h = x.1 in omega (arith, l, m)) u))
    (λ p s. not_so b (IsUnder k h q) (here ∙ ap (λ x. not (is_le (ordering_then x numbers))) p ∙ none_below q.number) (λ u. ⊎_elim (λ x. omega (arith, e, x)) (λ x. let m : q.hash < h = x.1 in omega (arith, s, m)) u))
    (λ p g. so b (IsUnder k h q) (here ∙ ap (λ x. not (is_le (ordering_then x numbers))) p) (inr (sym e, g))))
    (λ o g. so b (IsUnder k h q) (ap (λ x. not (is_le (ordering_then x hashes))) o) (inl g))
  where
    none_below : (n : ℕ) → not (is_le (nat_cmp 0 n)) ≡ false
    none_below n = by_ranked (0 < n) (0 ≡ n) (n < 0) (nat_cmp 0 n) (ranked 0 n (nat_cmp 0 n) refl) (λ e _. ap (λ x. not (is_le x)) e) (λ e _. ap (λ x. not (is_le x)) e) (λ _ l. absurd (omega (arith, l)))

not_not : (b : Bool) → not b ≡ false → b ≡ true
not_not true h = refl
not_not false h = cc

pub within_is : (k h l i : ℕ) (q : RuleHandle) → within k h l i q ≡ true → (IsUnder k h q → ⊥) × IsUnder l i q
within_is k h l i q w =
    let parts = and_parts (is_le (handle_cmp (place k h) q)) (not (is_le (handle_cmp (place l i) q))) w in
    (λ u. both_ways (not (is_le (handle_cmp (place k h) q))) (ap not parts.0) ((not_under k h q).1 u), (not_under l i q).0 parts.1)

pub is_within : (k h l i : ℕ) (q : RuleHandle) → IsUnder l i q → IsUnder k h q ⊎ (within k h l i q ≡ true)
is_within k h l i q u =
    ⊎_elim
    (λ t. inl ((not_under k h q).0 t))
    (λ f. inr (and_from _ _ (not_not (is_le (handle_cmp (place k h) q)) f) ((not_under l i q).1 u)))
    (cases_Bool (not (is_le (handle_cmp (place k h) q))))

none_past : (n : ℕ) → is_gt (nat_cmp 0 n) ≡ false
none_past n = by_ranked (0 < n) (0 ≡ n) (n < 0) (nat_cmp 0 n) (ranked 0 n (nat_cmp 0 n) refl) (λ e _. ap is_gt e) (λ e _. ap is_gt e) (λ _ l. absurd (omega (arith, l)))

-- a range runs forward
pub runs_forward : (k h l i : ℕ) → IsUpTo k h l i → is_gt (handle_cmp (place k h) (place l i)) ≡ false
runs_forward k h l i up =
    let hashes = ordering_then (nat_cmp h i) (nat_cmp 0 0) in
    by_ranked (k < l) (k ≡ l) (l < k) (nat_cmp k l) (ranked k l (nat_cmp k l) refl)
    (λ o _. ap (λ x. is_gt (ordering_then x hashes)) o)
    (λ o e.
    ap (λ x. is_gt (ordering_then x hashes)) o
    ∙ by_ranked (h < i) (h ≡ i) (i < h) (nat_cmp h i) (ranked h i (nat_cmp h i) refl)
    (λ p _. ap (λ x. is_gt (ordering_then x (nat_cmp 0 0))) p)
    (λ p _. ap (λ x. is_gt (ordering_then x (nat_cmp 0 0))) p ∙ none_past 0)
    (λ _ g. ⊎_elim (λ m. absurd (omega (arith, e, m))) (λ m. let j : h ≤ i = m.1 in absurd (omega (arith, g, j))) up))
    (λ _ g. ⊎_elim (λ m. absurd (omega (arith, g, m))) (λ m. let j : k ≡ l = m.0 in absurd (omega (arith, g, j))) up)
