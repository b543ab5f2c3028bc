-- Rows that are the same in their order are the same list, so counts have one text of their tables.
use Rattle.std.proofs.Common.{◌≡◌, ◌+◌, ◌<◌, ℕ, List, [], ◌∷◌, ◌++◌, Ordering, Less, Equal, Greater, Bool, true, false, IsTrue, nat_eq, length, Some, map, refl, sym, ap, ◌∙◌, arith, slice_index_or}
use Rattle.std.specs.BTreeSet.{BTreeSet, contains}
use Rattle.std.specs.Cmp.{IsTotalOrder}
use Rattle.std.specs.Cmp.Lexicographic.{bytes_decides, slice_cmp}
use Rattle.std.specs.List.{Contains, starts_with}
use Rattle.std.specs.List.Sorted.{IsStrictlySortedBy}
use Rattle.std.specs.Ordering.{is_lt, nat_cmp, ordering_reverse, ordering_then}
use Rattle.std.specs.Str.{bytes_eq}
use Rattle.std.proofs.lemmas.Bool.{false≢true}
use Rattle.std.proofs.lemmas.Cmp.{nat_cmp_total, on_total, then_total}
use Rattle.std.proofs.lemmas.List.{get_or-map, length-map}
use Rattle.std.proofs.lemmas.List.Elements.{All-contains}
use Rattle.std.proofs.lemmas.Map.Keys.{apart_from_distinct, sorted_from_all_adjacent}
use Rattle.std.proofs.lemmas.Map.Lookups.{CmpEqualImpliesEq, btree_set_from_contains, exact_bytes, exact_pairs, exact_unsigned}
use Rattle.std.proofs.lemmas.Map.Views.{btree_set_contains_iff}
use Rattle.dbus_count.specs.Counting.{Counting}
use Rattle.dbus_count.specs.declared.form.Form.{Form}
use Rattle.dbus_count.specs.Tables.{AreRows, AreTables, Row, rows_text}
use Rattle.dbus_count.proofs.RowLaws.{order, order_total}

-- ---- an order that tells all rows apart

abbrev full : Row → Row → Ordering
full a b = ordering_then (order a b) (nat_cmp a.1.bytes b.1.bytes)

full_total : IsTotalOrder full
full_total = then_total order_total (on_total (λ (r : Row). r.1.bytes) nat_cmp_total)

abbrev first : ℕ × List ℕ → ℕ × List ℕ → Ordering
first x y = ordering_then (nat_cmp y.0 x.0) (slice_cmp nat_cmp x.1 y.1)

first_exact : CmpEqualImpliesEq first
first_exact = exact_pairs (λ x y. nat_cmp y x) (slice_cmp nat_cmp) (λ x y e. sym (exact_unsigned y x e)) exact_bytes

full_exact : CmpEqualImpliesEq full
full_exact a b e =
    ap (λ (k : (ℕ × List ℕ) × ℕ). the_row k)
    (exact_pairs first nat_cmp first_exact exact_unsigned ((a.1.messages, a.0), a.1.bytes) ((b.1.messages, b.0), b.1.bytes) e)
  where
    the_row : (ℕ × List ℕ) × ℕ → Row
    the_row k = (k.0.1, record { messages = k.0.0; bytes = k.1 })

-- ---- rows of a table rise by it

below : (a b : Row) (o : Ordering) → order a b ≡ o → is_lt (order b a) ≡ false → bytes_eq a.0 b.0 ≡ false → full a b ≡ Less
below a b Less e not_less apart = ap (λ o. ordering_then o (nat_cmp a.1.bytes b.1.bytes)) e
below a b Equal e not_less apart = absurd (false≢true (sym apart ∙ (bytes_decides a.0 b.0).1 (ap (λ (k : ℕ × List ℕ). k.1) (first_exact (a.1.messages, a.0) (b.1.messages, b.0) e))))
below a b Greater e not_less apart = absurd (false≢true (sym not_less ∙ ap is_lt (order_total.antisymm b a ∙ ap (λ o. ordering_reverse o) e)))

module _ (c : Counting) (word : List ℕ) where
  strict : (rows : List Row) → AreRows c word rows → IsStrictlySortedBy full rows
  strict rows h =
      let d : Row = ([], record { messages = 0; bytes = 0 }) in
      let name = λ (r : Row). r.0 in
      sorted_from_all_adjacent full_total rows d (λ k l.
      let a = slice_index_or rows k d in
      let b = slice_index_or rows (k + 1) d in
      let low : k < length rows = omega (arith, l) in
      let same : length (map name rows) ≡ length rows = length-map rows name in
      let apart : bytes_eq (slice_index_or (map name rows) k []) (slice_index_or (map name rows) (k + 1) []) ≡ false = apart_from_distinct bytes_eq (map name rows) k (k + 1) [] h.distinct (omega arith) (omega (arith, l, same)) in
      below a b (order a b) refl (h.sorted k d (omega arith) l)
      (ap (λ x. bytes_eq x b.0) (sym (get_or-map name rows k d [] low)) ∙ (ap (λ y. bytes_eq (slice_index_or (map name rows) k []) y) (sym (get_or-map name rows (k + 1) d [] l)) ∙ apart)))

  into : (rows others : List Row) → AreRows c word rows → AreRows c word others → (r : Row) → Contains rows r → Contains others r
  into rows others h g r has =
      let is = All-contains (λ row. (starts_with nat_eq row.0 word ≡ true) × (c row.0 ≡ Some row.1)) rows r h.counted has in
      g.all r.0 r.1 is.0 is.1

  same_bool : (a b : Bool) → (IsTrue a → IsTrue b) → (IsTrue b → IsTrue a) → a ≡ b
  same_bool true b f g = sym (f refl)
  same_bool false true f g = g refl
  same_bool false false f g = refl

  one : (rows others : List Row) → AreRows c word rows → AreRows c word others → rows ≡ others
  one rows others h g =
      let s : BTreeSet Row = record { keys = rows } in
      let t : BTreeSet Row = record { keys = others } in
      btree_set_from_contains full_total s t (strict rows h) (strict others g) (λ r.
      let inside = btree_set_contains_iff full_total full_exact s r in
      let there = btree_set_contains_iff full_total full_exact t r in
      same_bool (contains full s r) (contains full t r) (λ x. there.1 (into rows others h g r (inside.0 x))) (λ x. inside.1 (into others rows g h r (there.0 x)))) full_exact

pub one_text : (form : Form) (c : Counting) (words : List (List ℕ)) (text other : List ℕ) → AreTables form c words text → AreTables form c words other → text ≡ other
one_text form c [] text other t u = t ∙ sym u
one_text form c (word ∷ words) text other t u =
    t.4 ∙ (ap (λ rows. rows_text form word rows ++ t.1) (one c word t.0 u.0 t.2 u.2) ∙ (ap (λ more. rows_text form word u.0 ++ more) (one_text form c words t.1 u.1 t.3 u.3) ∙ sym u.4))
