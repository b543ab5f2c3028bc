-- Rows that are the same in their order are the same list, so sums have one text of their table.
use Rattle.std.proofs.Common.{◌≡◌, ◌+◌, ◌<◌, ℕ, List, [], Ordering, Less, Equal, Greater, Bool, true, false, IsTrue, length, Some, map, refl, sym, ap, ◌∙◌, arith, slice_index_or}
use Rattle.std.specs.BTreeSet.{BTreeSet, contains}
use Rattle.std.specs.Cmp.{IsTotalOrder}
use Rattle.std.specs.Cmp.Lexicographic.{bytes_decides, slice_cmp}
use Rattle.std.specs.List.{Contains}
use Rattle.std.specs.List.Sorted.{IsStrictlySortedBy}
use Rattle.std.specs.Ordering.{is_lt, nat_cmp, ordering_reverse, ordering_then}
use Rattle.std.specs.Str.{bytes_eq}
use Rattle.std.proofs.lemmas.Bool.{false≢true}
use Rattle.std.proofs.lemmas.Cmp.{nat_cmp_total, on_total, then_total}
use Rattle.std.proofs.lemmas.List.{get_or-map, length-map}
use Rattle.std.proofs.lemmas.List.Elements.{All-contains}
use Rattle.std.proofs.lemmas.Map.Keys.{apart_from_distinct, sorted_from_all_adjacent}
use Rattle.std.proofs.lemmas.Map.Lookups.{CmpEqualImpliesEq, btree_set_from_contains, exact_bytes, exact_pairs, exact_unsigned}
use Rattle.std.proofs.lemmas.Map.Views.{btree_set_contains_iff}
use Rattle.dbus_call_members.specs.Summing.{Sums, no_calls}
use Rattle.dbus_call_members.specs.Tables.{AreRows, OneTable, Row, rows_text}
use Rattle.dbus_call_members.specs.declared.member_sum.MemberSum.{MemberSum}
use Rattle.dbus_call_members.proofs.RowLaws.{order, order_total}

-- ---- an order that tells all rows apart

-- what a row has that its order does not look at
abbrev Rest : Type 0
Rest = ((ℕ × ℕ) × (ℕ × ℕ)) × ℕ

abbrev rest_of : Row → Rest
rest_of r = (((r.1.replies, r.1.errors), (r.1.unanswered, r.1.timed)), r.1.longest)

abbrev pairs : ℕ × ℕ → ℕ × ℕ → Ordering
pairs x y = ordering_then (nat_cmp x.0 y.0) (nat_cmp x.1 y.1)

abbrev fours : (ℕ × ℕ) × (ℕ × ℕ) → (ℕ × ℕ) × (ℕ × ℕ) → Ordering
fours x y = ordering_then (pairs x.0 y.0) (pairs x.1 y.1)

abbrev rests : Rest → Rest → Ordering
rests x y = ordering_then (fours x.0 y.0) (nat_cmp x.1 y.1)

pairs_total : IsTotalOrder pairs
pairs_total = then_total (on_total (λ (x : ℕ × ℕ). x.0) nat_cmp_total) (on_total (λ (x : ℕ × ℕ). x.1) nat_cmp_total)

fours_total : IsTotalOrder fours
fours_total = then_total (on_total (λ (x : (ℕ × ℕ) × (ℕ × ℕ)). x.0) pairs_total) (on_total (λ (x : (ℕ × ℕ) × (ℕ × ℕ)). x.1) pairs_total)

rests_total : IsTotalOrder rests
rests_total = then_total (on_total (λ (x : Rest). x.0) fours_total) (on_total (λ (x : Rest). x.1) nat_cmp_total)

pairs_exact : CmpEqualImpliesEq pairs
pairs_exact = exact_pairs nat_cmp nat_cmp exact_unsigned exact_unsigned

rests_exact : CmpEqualImpliesEq rests
rests_exact = exact_pairs fours nat_cmp (exact_pairs pairs pairs pairs_exact pairs_exact) exact_unsigned

abbrev full : Row → Row → Ordering
full a b = ordering_then (order a b) (rests (rest_of a) (rest_of b))

full_total : IsTotalOrder full
full_total = then_total order_total (on_total rest_of rests_total)

-- what the order looks at
abbrev Key : Type 0
Key = ℕ × (ℕ × List ℕ)

abbrev lasts : ℕ × List ℕ → ℕ × List ℕ → Ordering
lasts x y = ordering_then (nat_cmp y.0 x.0) (slice_cmp nat_cmp x.1 y.1)

abbrev first : Key → Key → Ordering
first x y = ordering_then (nat_cmp y.0 x.0) (lasts x.1 y.1)

first_exact : CmpEqualImpliesEq first
first_exact = exact_pairs (λ x y. nat_cmp y x) lasts (λ x y e. sym (exact_unsigned y x e)) (exact_pairs (λ x y. nat_cmp y x) (slice_cmp nat_cmp) (λ x y e. sym (exact_unsigned y x e)) exact_bytes)

abbrev key_of : Row → Key
key_of r = (r.1.total, (r.1.calls, r.0))

full_exact : CmpEqualImpliesEq full
full_exact a b e = ap (λ (k : Key × Rest). the_row k) (exact_pairs first rests first_exact rests_exact (key_of a, rest_of a) (key_of b, rest_of b) e)
  where
    the_row : Key × Rest → Row
    the_row k = (
      k.0.1.1,
      record {
        calls = k.0.1.0;
        replies = k.1.0.0.0;
        errors = k.1.0.0.1;
        unanswered = k.1.0.1.0;
        timed = k.1.0.1.1;
        total = k.0.0;
        longest = k.1.1;
      },
    )

-- ---- rows of a table rise by it

below : (a b : Row) (o : Ordering) → order a b ≡ o → is_lt (order b a) ≡ false → bytes_eq a.0 b.0 ≡ false → full a b ≡ Less
below a b Less e not_less apart = ap (λ o. ordering_then o (rests (rest_of a) (rest_of b))) e
below a b Equal e not_less apart = absurd (false≢true (sym apart ∙ (bytes_decides a.0 b.0).1 (ap (λ (k : Key). k.1.1) (first_exact (key_of a) (key_of b) e))))
below a b Greater e not_less apart = absurd (false≢true (sym not_less ∙ ap is_lt (order_total.antisymm b a ∙ ap (λ o. ordering_reverse o) e)))

module _ (s : Sums) where
  strict : (rows : List Row) → AreRows s rows → IsStrictlySortedBy full rows
  strict rows h =
      let d : Row = ([], no_calls) in
      let name = λ (r : Row). r.0 in
      sorted_from_all_adjacent full_total rows d (λ k l.
      let a = slice_index_or rows k d in
      let b = slice_index_or rows (k + 1) d in
      let low : k < length rows = omega (arith, l) in
      let same : length (map name rows) ≡ length rows = length-map rows name in
      let apart : bytes_eq (slice_index_or (map name rows) k []) (slice_index_or (map name rows) (k + 1) []) ≡ false = apart_from_distinct bytes_eq (map name rows) k (k + 1) [] h.distinct (omega arith) (omega (arith, l, same)) in
      below a b (order a b) refl (h.sorted k d (omega arith) l)
      (ap (λ x. bytes_eq x b.0) (sym (get_or-map name rows k d [] low)) ∙ (ap (λ y. bytes_eq (slice_index_or (map name rows) k []) y) (sym (get_or-map name rows (k + 1) d [] l)) ∙ apart)))

  into : (rows others : List Row) → AreRows s rows → AreRows s others → (r : Row) → Contains rows r → Contains others r
  into rows others h g r has = g.all r.0 r.1 (All-contains (λ row. s row.0 ≡ Some row.1) rows r h.summed has)

  same_bool : (a b : Bool) → (IsTrue a → IsTrue b) → (IsTrue b → IsTrue a) → a ≡ b
  same_bool true b f g = sym (f refl)
  same_bool false true f g = g refl
  same_bool false false f g = refl

  one : (rows others : List Row) → AreRows s rows → AreRows s others → rows ≡ others
  one rows others h g =
      let x : BTreeSet Row = record { keys = rows } in
      let y : BTreeSet Row = record { keys = others } in
      btree_set_from_contains full_total x y (strict rows h) (strict others g) (λ r.
      let inside = btree_set_contains_iff full_total full_exact x r in
      let there = btree_set_contains_iff full_total full_exact y r in
      same_bool (contains full x r) (contains full y r) (λ z. there.1 (into rows others h g r (inside.0 z))) (λ z. inside.1 (into others rows g h r (there.0 z)))) full_exact

pub one_table : OneTable
one_table form s text other t u = t.2 ∙ (ap (λ rows. rows_text form rows) (one s t.0 u.0 t.1 u.1) ∙ sym u.2)
