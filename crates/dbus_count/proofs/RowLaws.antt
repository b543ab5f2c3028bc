-- The rows of a table are the entries of a map whose names begin with a word, in another order.
use Rattle.std.proofs.Common.{◌≡◌, ◌<◌, ◌+◌, ℕ, List, [], ◌∷◌, Ordering, Bool, true, false, cond, nat_eq, length, Some, map, refl, sym, ap, ◌∙◌, subst, arith, slice_index_or, ◌++◌, codes, Option, None, MatchOption, drop, append-nil, append_assoc}
use Rattle.std.specs.BTreeMap.{BTreeMap, IsOrdered}
use Rattle.std.specs.Borrow.{Bor}
use Rattle.std.specs.Cmp.Lexicographic.{slice_cmp, bytes_decides, nat_list_eq_equiv}
use Rattle.std.specs.List.{All, AllByRecursion, Contains, IsDistinct, filter, starts_with}
use Rattle.std.specs.Cmp.{IsStrictWeakOrder, IsTotalOrder}
use Rattle.std.proofs.lemmas.Cmp.{back_total, nat_cmp_total, nat_list_cmp_total, on_total, then_total}
use Rattle.std.specs.List.Sorted.{IsPermutation, IsSortedBy}
use Rattle.std.specs.Map.{lookup, keys_of}
use Rattle.std.specs.Map.Iter.{deref_pair}
use Rattle.std.specs.Ordering.{eq_by_cmp, nat_cmp, ordering_then}
use Rattle.std.specs.Str.{bytes_eq, IsCharBoundary}
use Rattle.std.proofs.lemmas.List.{get_or_default, get_or-map, length-map}
use Rattle.std.proofs.lemmas.List.Elements.{All-filter, filter_passes}
use Rattle.std.proofs.lemmas.List.Sorted.{All-permutation, Contains-permutation, IsPermutation-map, ranks_by}
use Rattle.std.proofs.lemmas.Map.Entries.{lookup-filter-keys}
use Rattle.std.proofs.lemmas.Map.Keys.{IsDistinct-from_sorted, IsDistinct-IsPermutation}
use Rattle.std.proofs.lemmas.Map.Made.{IsDistinct-keys_filter}
use Rattle.std.proofs.lemmas.Map.Views.{Contains-from_lookup, lookup-from_Contains}
use Rattle.std.specs.Option.{unwrap_or}
use Rattle.std.specs.Str.Pattern.{FindsTextPrefix, StripsPrefix}
use Rattle.std.proofs.lemmas.Str.Pattern.{starts_text}
use Rattle.dbus_json.specs.JsonValues.{member, object}
use Rattle.dbus_count.specs.Counting.{has, Counting}
use Rattle.dbus_count.specs.NameOrder.{bytes_of, name_order, name_ties}
use Rattle.dbus_count.specs.Tables.{Row, goes_before, row_of, AreRows, AreTables, behind, row_text, rows_text}
use Rattle.dbus_count.specs.declared.count.Count.{Count}
use Rattle.dbus_count.specs.declared.name.Name.{Name}
use Rattle.dbus_count.specs.declared.form.Form.{Form}

abbrev pub row : Name × Count → Row
row e = (bytes_of e.0, e.1)

abbrev pub begins : List ℕ → Row → Bool
begins word r = starts_with nat_eq r.0 word

-- a look-up by bytes
pub lookup_rows : (name : List ℕ) (es : List (Name × Count)) → lookup (has name) es ≡ lookup (bytes_eq name) (map row es)
lookup_rows name [] = refl
lookup_rows name (e ∷ es) = ap (λ r. cond (has name e.0) (Some e.1) r) (lookup_rows name es)

apart_rows : (x : List ℕ) (s : Name) → x ≡ bytes_of s → (es : List (Name × Count)) → AllByRecursion (λ y. eq_by_cmp name_order s y ≡ false) (keys_of es) → AllByRecursion (λ y. bytes_eq x y ≡ false) (keys_of (map row es))
apart_rows x s same [] all = tt
apart_rows x s same (e ∷ es) all = (ap (λ w. bytes_eq w (bytes_of e.0)) same ∙ (name_ties s e.0 ∙ all.0), apart_rows x s same es all.1)

distinct_rows : (es : List (Name × Count)) → IsDistinct (eq_by_cmp name_order) (keys_of es) → IsDistinct bytes_eq (keys_of (map row es))
unfolding IsDistinct
distinct_rows [] d = tt
distinct_rows (e ∷ es) d = (apart_rows (bytes_of e.0) e.0 refl es d.0, distinct_rows es d.1)

both : (b : Bool) (e : Name × Count) (es : List (Name × Count)) (rows : List Row) → map row es ≡ rows → map row (cond b (e ∷ es) es) ≡ cond b (row e ∷ rows) rows
both true e es rows same = ap (λ l. row e ∷ l) same
both false e es rows same = same

-- the rows that begin with the word are those of the entries that do
pub filter_rows : (word : List ℕ) (es : List (Name × Count)) → map row (filter (λ e. begins word (row e)) es) ≡ filter (begins word) (map row es)
filter_rows word [] = refl
filter_rows word (e ∷ es) = both (begins word (row e)) e (filter (λ e. begins word (row e)) es) (filter (begins word) (map row es)) (filter_rows word es)

pub deref_rows : (ps : List (Bor Name × Bor Count)) → map row_of ps ≡ map row (map deref_pair ps)
deref_rows [] = refl
deref_rows (p ∷ ps) = ap (λ l. row_of p ∷ l) (deref_rows ps)

-- ---- the order of rows

abbrev pub order : Row → Row → Ordering
order a b = ordering_then (nat_cmp b.1.messages a.1.messages) (slice_cmp nat_cmp a.0 b.0)

pub order_total : IsTotalOrder order
order_total = then_total (on_total (λ (r : Row). r.1.messages) (back_total nat_cmp_total)) (on_total (λ (r : Row). r.0) nat_list_cmp_total)

pub rows_rank : IsStrictWeakOrder (λ (p q : Bor Name × Bor Count). goes_before (row_of p) (row_of q))
rows_rank = ranks_by order_total row_of

no_less : (k : ℕ) → k + 1 < 0 → ⊥
no_less k l = omega (arith, l)

pub rows_sorted : (ps : List (Bor Name × Bor Count)) → IsSortedBy (λ p q. goes_before (row_of p) (row_of q)) ps → IsSortedBy goes_before (map row_of ps)
rows_sorted [] sorted = λ k d low l. absurd (no_less k l)
rows_sorted (p ∷ ps) sorted = λ k d low l.
    let same : length (map row_of (p ∷ ps)) ≡ length (p ∷ ps) = length-map (p ∷ ps) row_of in
    let next : k + 1 < length (p ∷ ps) = subst (λ n. k + 1 < n) same l in
    ap (λ a. goes_before a (slice_index_or (map row_of (p ∷ ps)) k d)) (get_or-map row_of (p ∷ ps) (k + 1) p d next)
    ∙ (ap (λ b. goes_before (row_of (slice_index_or (p ∷ ps) (k + 1) p)) b) (get_or-map row_of (p ∷ ps) k p d (omega (arith, next))) ∙ sorted k p low next)

-- ---- the rows of a map

module _ (m : BTreeMap Name Count) (ordered : IsOrdered name_order m) (word : List ℕ) (rows : List Row) (moved : IsPermutation (filter (begins word) (map row m.entries)) rows) where
  abbrev es : List Row
  es = map row m.entries

  abbrev chosen : List Row
  chosen = filter (begins word) es

  distinct : IsDistinct bytes_eq (keys_of es)
  distinct = distinct_rows m.entries (IsDistinct-from_sorted name_order (keys_of m.entries) ordered)

  finds : All (λ r. lookup (bytes_eq r.0) es ≡ Some r.1) es
  finds = λ k d l. lookup-from_Contains nat_list_eq_equiv (slice_index_or es k d).0 (slice_index_or es k d).1 es distinct (k, l, get_or_default es k (slice_index_or es k d) d l)

  pub rows_counted : All (λ r. (starts_with nat_eq r.0 word ≡ true) × (lookup (has r.0) m.entries ≡ Some r.1)) rows
  rows_counted = λ k d l. (
    All-permutation (λ r. begins word r ≡ true) chosen rows moved (filter_passes (begins word) es) k d l,
    lookup_rows (slice_index_or rows k d).0 m.entries ∙ All-permutation (λ r. lookup (bytes_eq r.0) es ≡ Some r.1) chosen rows moved (All-filter (begins word) (λ r. lookup (bytes_eq r.0) es ≡ Some r.1) es finds) k d l,
  )

  pub rows_all : (name : List ℕ) (count : Count) → starts_with nat_eq name word ≡ true → lookup (has name) m.entries ≡ Some count → Contains rows (name, count)
  rows_all name count begun got =
      Contains-permutation chosen rows (name, count) moved
      (Contains-from_lookup (λ x y e. (bytes_decides x y).0 e) name count chosen
      (lookup-filter-keys (bytes_eq name) (λ k. starts_with nat_eq k word) true (λ k e. ap (λ w. starts_with nat_eq w word) (sym ((bytes_decides name k).0 e)) ∙ begun) es ∙ (sym (lookup_rows name m.entries) ∙ got)))

  pub rows_distinct : IsDistinct bytes_eq (map (λ r. r.0) rows)
  rows_distinct =
      IsDistinct-IsPermutation bytes_eq nat_list_eq_equiv.symm (keys_of chosen) (keys_of rows) (IsPermutation-map (λ r. r.0) chosen rows moved)
      (IsDistinct-keys_filter bytes_eq (begins word) es distinct)

-- The lines of rows.

-- a line more
pub rows_push : (form : Form) (word : List ℕ) (ps : List (Bor Name × Bor Count)) (p : Bor Name × Bor Count)
    → rows_text form word (map row_of (ps ++ p ∷ [])) ≡ rows_text form word (map row_of ps) ++ row_text form word (row_of p)
rows_push form word [] p = append-nil (row_text form word (row_of p))
rows_push form word (q ∷ ps) p =
    ap (λ t. row_text form word (row_of q) ++ t) (rows_push form word ps p)
    ∙ sym (append_assoc (row_text form word (row_of q)) (rows_text form word (map row_of ps)) (row_text form word (row_of p)))

-- the pieces of an object of a name and two numbers
pieces : (begin quote word colon value second m third n close end : List ℕ)
    → (begin ++ quote) ++ (word ++ ((quote ++ colon) ++ (value ++ (second ++ (m ++ (third ++ (n ++ (close ++ end))))))))
    ≡ (begin ++ ((((quote ++ (word ++ quote)) ++ (colon ++ value)) ++ ((second ++ m) ++ ((third ++ n) ++ []))) ++ close)) ++ end
pieces begin quote word colon value second m third n close end = simp (append-nil, append_assoc)

pub object_is : (word value messages bytes : List ℕ)
    → codes "{\"" ++ (word ++ (codes "\":" ++ (value ++ (codes ",\"messages\":" ++ (messages ++ (codes ",\"bytes\":" ++ (bytes ++ codes "}\n")))))))
    ≡ object (member word value ∷ member (codes "messages") messages ∷ member (codes "bytes") bytes ∷ []) ++ codes "\n"
object_is word value messages bytes = pieces (codes "{") (codes "\"") word (codes ":") value (codes ",\"messages\":") messages (codes ",\"bytes\":") bytes (codes "}") (codes "\n")

-- what `strip_prefix` leaves, or the whole
pub behind_is : (r : Option (Bor (List ℕ))) (text : Bor (List ℕ)) (front : List ℕ) → MatchOption r (FindsTextPrefix front text.now None) (λ x. StripsPrefix (FindsTextPrefix front) text.now x.now)
    → (unwrap_or r text).now ≡ behind front text.now
behind_is None text front lacks = ap (λ (b : Bool). cond b (drop (length front) text.now) text.now) (starts_text false front text.now lacks)
behind_is (Some x) text front strips =
    strips.2 ∙ (ap (λ i. drop i text.now) strips.1.0
    ∙ ap (λ (b : Bool). cond b (drop (length front) text.now) text.now) (starts_text true front text.now (strips.0, strips.1, subst (λ i. IsCharBoundary text.now i) (sym strips.1.0) strips.1.2)))

-- a draft gains tables one after the other
module _ {D : Type 0} (gains : D → List ℕ → D → Type 0) (joins : (a b c : D) (s t : List ℕ) → gains a s b → gains b t c → gains a (s ++ t) c) (form : Form) (c : Counting) where
  abbrev pub HasTable : (word : List ℕ) → D → D → Type 0
  HasTable word a b = (rows : List Row) × AreRows c word rows × gains a (rows_text form word rows) b

  abbrev pub HasTables : (words : List (List ℕ)) → D → D → Type 0
  HasTables words a b = (text : List ℕ) × AreTables form c words text × gains a text b

  pub no_tables : (a : D) → gains a [] a → HasTables [] a a
  no_tables a none = ([], refl, none)

  pub more_tables : (word : List ℕ) (words : List (List ℕ)) (x y z : D) → HasTable word x y → HasTables words y z → HasTables (word ∷ words) x z
  more_tables word words x y z table more =
      (rows_text form word table.0 ++ more.0, (table.0, more.0, table.1, more.1, refl), joins x y z (rows_text form word table.0) more.0 table.2 more.2)
