-- The rows of a table are the entries of a map in another order.
use Rattle.std.specs.Prelude.{String}
use Rattle.std.proofs.Common.{◌≡◌, ◌<◌, ◌+◌, ℕ, List, [], ◌∷◌, ◌++◌, Ordering, Bool, true, false, cond, length, Some, Option, map, refl, sym, ap, ◌∙◌, subst, arith, slice_index_or, string_bytes, append-nil, append_assoc}
use Rattle.std.specs.BTreeMap.{BTreeMap, IsOrdered, get_by_text, is_at}
use Rattle.std.specs.Borrow.{Bor}
use Rattle.std.specs.Cmp.{IsStrictWeakOrder, IsTotalOrder}
use Rattle.std.specs.Cmp.Lexicographic.{slice_cmp, bytes_decides, nat_list_eq_equiv}
use Rattle.std.specs.List.{All, AllByRecursion, Contains, IsDistinct}
use Rattle.std.specs.List.Sorted.{IsPermutation, IsSortedBy}
use Rattle.std.specs.Map.{lookup, keys_of}
use Rattle.std.specs.Map.Iter.{deref_pair}
use Rattle.std.specs.Ordering.{eq_by_cmp, nat_cmp, ordering_then}
use Rattle.std.specs.Str.{bytes_eq}
use Rattle.std.specs.String.{string_cmp}
use Rattle.std.specs.declared.alloc.Global.{Global}
use Rattle.std.proofs.lemmas.Cmp.{back_total, nat_cmp_total, nat_list_cmp_total, on_total, then_total}
use Rattle.std.proofs.lemmas.List.{get_or_default, get_or-map, length-map}
use Rattle.std.proofs.lemmas.List.Sorted.{All-permutation, Contains-permutation, IsPermutation-map, ranks_by}
use Rattle.std.proofs.lemmas.Map.Keys.{IsDistinct-from_sorted, IsDistinct-IsPermutation}
use Rattle.std.proofs.lemmas.Map.Text.{is_eq-slice_cmp}
use Rattle.std.proofs.lemmas.Map.Views.{Contains-from_lookup, lookup-from_Contains}
use Rattle.dbus_call_members.specs.Tables.{Row, goes_before, row_of, row_text, rows_text}
use Rattle.dbus_call_members.specs.declared.member_sum.MemberSum.{MemberSum}
use Rattle.dbus_call_lines.specs.declared.form.Form.{Form}

abbrev pub Entry : Type 0
Entry = String Global × MemberSum

abbrev pub row : Entry → Row
row e = (string_bytes e.0, e.1)

-- a look-up by bytes
same_test : (name : List ℕ) (key : String Global) → is_at (λ k. slice_cmp nat_cmp name (string_bytes k)) key ≡ bytes_eq name (string_bytes key)
same_test name key = is_eq-slice_cmp name (string_bytes key)

lookup_rows : (name : List ℕ) (es : List Entry) → lookup (is_at (λ k. slice_cmp nat_cmp name (string_bytes k))) es ≡ lookup (bytes_eq name) (map row es)
lookup_rows name [] = refl
lookup_rows name (e ∷ es) =
    ap (λ b. cond b (Some e.1) (lookup (is_at (λ k. slice_cmp nat_cmp name (string_bytes k))) es)) (same_test name e.0) ∙ ap (λ r. cond (bytes_eq name (string_bytes e.0)) (Some e.1) r) (lookup_rows name es)

pub by_text : (m : BTreeMap (String Global) MemberSum) (name : List ℕ) → get_by_text m name ≡ lookup (bytes_eq name) (map row m.entries)
by_text m name = lookup_rows name m.entries

apart_rows : (s : String Global) (es : List Entry) → AllByRecursion (λ y. eq_by_cmp string_cmp s y ≡ false) (keys_of es) → AllByRecursion (λ y. bytes_eq (string_bytes s) y ≡ false) (keys_of (map row es))
apart_rows s [] all = tt
apart_rows s (e ∷ es) all = (sym (is_eq-slice_cmp (string_bytes s) (string_bytes e.0)) ∙ all.0, apart_rows s es all.1)

distinct_rows : (es : List Entry) → IsDistinct (eq_by_cmp string_cmp) (keys_of es) → IsDistinct bytes_eq (keys_of (map row es))
unfolding IsDistinct
distinct_rows [] d = tt
distinct_rows (e ∷ es) d = (apart_rows e.0 es d.0, distinct_rows es d.1)

pub deref_rows : (ps : List (Bor (String Global) × Bor MemberSum)) → map row_of ps ≡ map row (map deref_pair ps)
deref_rows [] = refl
deref_rows (p ∷ ps) = ap (λ l. row_of p ∷ l) (deref_rows ps)

-- ---- the order of rows

abbrev pub order : Row → Row → Ordering
order a b = ordering_then (nat_cmp b.1.total a.1.total) (ordering_then (nat_cmp b.1.calls a.1.calls) (slice_cmp nat_cmp a.0 b.0))

pub order_total : IsTotalOrder order
order_total = then_total (on_total (λ (r : Row). r.1.total) (back_total nat_cmp_total)) (then_total (on_total (λ (r : Row). r.1.calls) (back_total nat_cmp_total)) (on_total (λ (r : Row). r.0) nat_list_cmp_total))

pub rows_rank : IsStrictWeakOrder (λ (p q : Bor (String Global) × Bor MemberSum). goes_before (row_of p) (row_of q))
rows_rank = ranks_by order_total row_of

no_less : (k : ℕ) → k + 1 < 0 → ⊥
no_less k l = omega (arith, l)

pub rows_sorted : (ps : List (Bor (String Global) × Bor MemberSum)) → IsSortedBy (λ p q. goes_before (row_of p) (row_of q)) ps → IsSortedBy goes_before (map row_of ps)
rows_sorted [] sorted = λ k d low l. absurd (no_less k l)
rows_sorted (p ∷ ps) sorted = λ k d low l.
    let same : length (map row_of (p ∷ ps)) ≡ length (p ∷ ps) = length-map (p ∷ ps) row_of in
    let next : k + 1 < length (p ∷ ps) = subst (λ n. k + 1 < n) same l in
    ap (λ a. goes_before a (slice_index_or (map row_of (p ∷ ps)) k d)) (get_or-map row_of (p ∷ ps) (k + 1) p d next)
    ∙ (ap (λ b. goes_before (row_of (slice_index_or (p ∷ ps) (k + 1) p)) b) (get_or-map row_of (p ∷ ps) k p d (omega (arith, next))) ∙ sorted k p low next)

-- ---- the rows of a map

module _ (m : BTreeMap (String Global) MemberSum) (ordered : IsOrdered string_cmp m) (rows : List Row) (moved : IsPermutation (map row m.entries) rows) where
  abbrev es : List Row
  es = map row m.entries

  distinct : IsDistinct bytes_eq (keys_of es)
  distinct = distinct_rows m.entries (IsDistinct-from_sorted string_cmp (keys_of m.entries) ordered)

  finds : All (λ r. lookup (bytes_eq r.0) es ≡ Some r.1) es
  finds = λ k d l. lookup-from_Contains nat_list_eq_equiv (slice_index_or es k d).0 (slice_index_or es k d).1 es distinct (k, l, get_or_default es k (slice_index_or es k d) d l)

  pub rows_summed : All (λ r. get_by_text m r.0 ≡ Some r.1) rows
  rows_summed = λ k d l. by_text m (slice_index_or rows k d).0 ∙ All-permutation (λ r. lookup (bytes_eq r.0) es ≡ Some r.1) es rows moved finds k d l

  pub rows_all : (name : List ℕ) (sum : MemberSum) → get_by_text m name ≡ Some sum → Contains rows (name, sum)
  rows_all name sum got =
      Contains-permutation es rows (name, sum) moved
      (Contains-from_lookup (λ x y e. (bytes_decides x y).0 e) name sum es (sym (by_text m name) ∙ got))

  pub rows_distinct : IsDistinct bytes_eq (map (λ r. r.0) rows)
  rows_distinct = IsDistinct-IsPermutation bytes_eq nat_list_eq_equiv.symm (keys_of es) (keys_of rows) (IsPermutation-map (λ r. r.0) es rows moved) distinct

-- ---- the lines of rows

-- a line more
pub rows_push : (form : Form) (ps : List (Bor (String Global) × Bor MemberSum)) (p : Bor (String Global) × Bor MemberSum)
    → rows_text form (map row_of (ps ++ p ∷ [])) ≡ rows_text form (map row_of ps) ++ row_text form (row_of p)
rows_push form [] p = append-nil (row_text form (row_of p))
rows_push form (q ∷ ps) p =
    ap (λ t. row_text form (row_of q) ++ t) (rows_push form ps p) ∙ sym (append_assoc (row_text form (row_of q)) (rows_text form (map row_of ps)) (row_text form (row_of p)))
