-- What the items of a type pass, one after another, is what is spelled.
use Rattle.std.proofs.Common.{◌≡◌, ℕ, suc, ◌+◌, ◌^◌, ◌<◌, ◌≤◌, ◌↔◌, List, [], ◌∷◌, ◌++◌, length, ltb, Option, None, Some, IfSome, refl, sym, ap, subst, ◌∙◌, arith, inl, inr, append_assoc}
use Rattle.std.proofs.lemmas.Bool.{ltb-true, ltb-false, lt-ltb, le-ltb}
use Rattle.std.proofs.lemmas.List.{length-append, length-replicate}
use Rattle.dbus_texts.specs.Types.{NumberCode, BYTE, BOOLEAN, INT16, UINT16, INT32, UINT32, INT64, UINT64, DOUBLE, UNIX_FD, TextCode, TypeTree, NumberType, TextType, VariantType, ArrayType, StructType, EntryType, TypeTrees, NoTypes, MoreTypes, sig, IsSingleType}
use Rattle.dbus_types.specs.Alignments.{width, length_width, alignment_of}
use Rattle.dbus_value_model.specs.declared.limits.Bounds.{Bounds}
use Rattle.dbus_value_model.specs.declared.order.Order.{Order}
use Rattle.dbus_value_model.specs.Bytes.{num, gap_to, pad}
use Rattle.dbus_value_model.specs.FdIndexes.{IsIndexBelow}
use Rattle.dbus_value_model.specs.Spelling.{contents_start, ended_text, spelling, spellings, Spelled}
use Rattle.dbus_value_model.specs.Outcomes.{SpelledAll}
use Rattle.dbus_value_model.specs.Values.{IsNumber, AllOf, ValueTree, value_trees, ValueTrees, NoValues, MoreValues, NumberValue, TextValue, VariantValue, ArrayValue, StructValue, EntryValue, type_of, types_of}
use Rattle.dbus_value_model.specs.Items.{Item, Sequence}
use Rattle.dbus_value_model.specs.ValueItems.{index_row, number_row, text_row, array_row, items, fields}
use Rattle.dbus_value_model.proofs.Numbers.{length-num}
use Rattle.dbus_value_laws.proofs.KindLaws.{text_single}
use Rattle.dbus_value_laws.proofs.OwnItems.{chosen}
use Rattle.dbus_value_laws.proofs.ReadSteps.{text_fits}

-- ---- rows

pub row_fits : (end p n : ℕ) → text_row end p n ≡ None → p + n + 1 ≤ end
row_fits end p n e = elim (chosen (ltb end (p + n + 1)) _ _ _ e) [
  | inl h ↦ absurd (cc (h.1))
  | inr h ↦ ltb-false _ _ h.0
]

pub array_row_fits : (bounds : Bounds) (t : TypeTree) (end p n : ℕ) → array_row bounds t end p n ≡ None → (n ≤ bounds.array) × (p + gap_to (alignment_of t) p + n ≤ end)
array_row_fits bounds t end p n e = elim (chosen (ltb bounds.array n) _ _ _ e) [
  | inl h ↦ absurd (cc (h.1))
  | inr h ↦ elim (chosen (ltb end (p + gap_to (alignment_of t) p + n)) _ _ _ h.1) [
    | inl k ↦ absurd (cc (k.1))
    | inr k ↦ (ltb-false _ _ h.0, ltb-false _ _ k.0)
  ]
]

pub fits_array_row : (bounds : Bounds) (t : TypeTree) (end p n : ℕ) → n ≤ bounds.array → p + gap_to (alignment_of t) p + n ≤ end → array_row bounds t end p n ≡ None
fits_array_row bounds t end p n a b = rw (le-ltb _ _ a, le-ltb _ _ b) refl

row_below : (fds : Option ℕ) (n : ℕ) → index_row fds n ≡ None → IfSome fds (λ limit. n < limit)
row_below None n e = tt
row_below (Some limit) n e = elim (chosen (ltb n limit) _ _ _ e) [ inl w ↦ ltb-true _ _ w.0 | inr w ↦ absurd (cc (w.1)) ]

below_row : (fds : Option ℕ) (n : ℕ) → IfSome fds (λ limit. n < limit) → index_row fds n ≡ None
below_row None n h = refl
below_row (Some limit) n h = rw (lt-ltb _ _ h) refl

pub row_number : (fds : Option ℕ) (k : NumberCode) (p n : ℕ) → n < 256 ^ width k → number_row fds k p n ≡ None → IsNumber k n × IsIndexBelow fds k n
row_number fds BYTE p n h e = (h, tt)
row_number fds BOOLEAN p n h e = elim (chosen (ltb n 2) _ _ _ e) [ inl w ↦ (ltb-true _ _ w.0, tt) | inr w ↦ absurd (cc (w.1)) ]
row_number fds INT16 p n h e = (h, tt)
row_number fds UINT16 p n h e = (h, tt)
row_number fds INT32 p n h e = (h, tt)
row_number fds UINT32 p n h e = (h, tt)
row_number fds INT64 p n h e = (h, tt)
row_number fds UINT64 p n h e = (h, tt)
row_number fds DOUBLE p n h e = (h, tt)
row_number fds UNIX_FD p n h e = (h, row_below fds n e)

pub number_row_none : (fds : Option ℕ) (k : NumberCode) (p n : ℕ) → IsNumber k n → IsIndexBelow fds k n → (n < 256 ^ width k) × (number_row fds k p n ≡ None)
number_row_none fds BYTE p n h below = (h, refl)
number_row_none fds BOOLEAN p n h below = (omega arith, rw (lt-ltb _ _ h) refl)
number_row_none fds INT16 p n h below = (h, refl)
number_row_none fds UINT16 p n h below = (h, refl)
number_row_none fds INT32 p n h below = (h, refl)
number_row_none fds UINT32 p n h below = (h, refl)
number_row_none fds INT64 p n h below = (h, refl)
number_row_none fds UINT64 p n h below = (h, refl)
number_row_none fds DOUBLE p n h below = (h, refl)
number_row_none fds UNIX_FD p n h below = (h, below_row fds n below)

-- ---- lists

joined : (s a t b r : List ℕ) → s ≡ a ++ t → t ≡ b ++ r → s ≡ (a ++ b) ++ r
joined s a t b r e f = e ∙ ap (λ (u : List ℕ). a ++ u) f ∙ sym (append_assoc a b r)

-- ---- a number

pub number_to : (bounds : Bounds) (order : Order) (depth_left : ℕ) (inside : ℕ → TypeTree → Item ValueTree) (end : ℕ) (k : NumberCode) (o : ℕ) (s : List ℕ) (v : ValueTree) (q : ℕ) (r : List ℕ) → (items bounds order depth_left inside end (NumberType k)).Passed o s v q r → Spelled bounds order depth_left end (NumberType k) o s v q r
unfolding spelling
number_to bounds order depth_left inside end k o s v q r w =
    let padded = w.3 in
    let a = w.4 in
    let read = a.3 in
    let rows = row_number bounds.fds k a.1 a.0 read.0 read.4 in
    rw (a.4.0, a.4.1, a.4.2) (record {
      has_type = refl;
      formed = rows.0;
      within = tt;
      indexes = rows.1;
      bytes = joined s (pad (width k) o) w.2 (num order (width k) a.0) a.2 padded.0 read.1;
      place = simp (length-append, length-num, length-replicate) (omega (arith, read.2, padded.1));
      bound = read.3;
    })

pub number_from : (bounds : Bounds) (order : Order) (depth_left : ℕ) (inside : ℕ → TypeTree → Item ValueTree) (end : ℕ) (k : NumberCode) (o : ℕ) (s : List ℕ) (n q : ℕ) (r : List ℕ) → Spelled bounds order depth_left end (NumberType k) o s (NumberValue k n) q r → (items bounds order depth_left inside end (NumberType k)).Passed o s (NumberValue k n) q r
unfolding spelling
number_from bounds order depth_left inside end k o s n q r h =
    let ok = number_row_none bounds.fds k (o + gap_to (width k) o + width k) n h.formed h.indexes in
    let long : length (pad (width k) o ++ num order (width k) n) ≡ gap_to (width k) o + width k = simp (length-append, length-num, length-replicate) in
    let ends : q ≡ o + gap_to (width k) o + width k = omega (arith, h.place, long) in (
      tt,
      o + gap_to (width k) o,
      num order (width k) n ++ r,
      (h.bytes ∙ append_assoc _ _ r, refl, omega (arith, h.bound)),
      (n, o + gap_to (width k) o + width k, r, (ok.0, refl, refl, omega (arith, h.bound), ok.1), (refl, ends, refl)),
    )

-- ---- a text

pub text_to : (bounds : Bounds) (order : Order) (depth_left : ℕ) (inside : ℕ → TypeTree → Item ValueTree) (end : ℕ) (k : TextCode) (o : ℕ) (s : List ℕ) (v : ValueTree) (q : ℕ) (r : List ℕ) → (items bounds order depth_left inside end (TextType k)).Passed o s v q r → Spelled bounds order depth_left end (TextType k) o s v q r
unfolding spelling
text_to bounds order depth_left inside end k o s v q r w =
    let padded = w.3 in
    let a = w.4 in
    let read = a.3 in
    let b = a.4 in
    let taken = b.3 in
    let c = b.4 in
    let ended = c.3 in
    let len : length b.0 ≡ a.0 = taken.1 in
    let fits = row_fits end a.1 a.0 read.4 in
    rw (c.4.0, c.4.1, c.4.2) (record {
      has_type = refl;
      formed = (taken.2, rw len read.0);
      within = tt;
      indexes = tt;
      bytes = joined s (pad (length_width k) o) w.2 (ended_text order (length_width k) b.0) c.2 padded.0
          (joined w.2 (num order (length_width k) (length b.0)) a.2 (b.0 ++ 0 ∷ []) c.2 (rw len read.1) (joined a.2 b.0 b.2 (0 ∷ []) c.2 taken.0 ended.0));
      place = simp (length-append, length-num, length-replicate) (omega (arith, ended.1, taken.3, read.2, padded.1, len));
      bound = omega (arith, ended.1, taken.3, fits);
    })

pub text_from : (bounds : Bounds) (order : Order) (depth_left : ℕ) (inside : ℕ → TypeTree → Item ValueTree) (end : ℕ) (k : TextCode) (o : ℕ) (s t : List ℕ) (q : ℕ) (r : List ℕ) → Spelled bounds order depth_left end (TextType k) o s (TextValue k t) q r → (items bounds order depth_left inside end (TextType k)).Passed o s (TextValue k t) q r
unfolding spelling
text_from bounds order depth_left inside end k o s t q r h =
    let w = length_width k in
    let p = o + gap_to w o in
    let long : length (pad w o ++ ended_text order w t) ≡ gap_to w o + (w + (length t + 1)) = simp (length-append, length-num, length-replicate) in
    let ends : q ≡ p + w + length t + 1 = omega (arith, h.place, long) in
    let there : s ≡ pad w o ++ (num order w (length t) ++ (t ++ 0 ∷ r)) = h.bytes ∙ simp append_assoc in (
      tt,
      p,
      num order w (length t) ++ (t ++ 0 ∷ r),
      (there, refl, omega (arith, h.bound)),
      (
        length t,
        p + w,
        t ++ 0 ∷ r,
        (h.formed.1, refl, refl, omega (arith, h.bound), text_fits end (p + w) (length t) (omega (arith, h.bound))),
        (
          t,
          p + w + length t,
          0 ∷ r,
          (refl, refl, h.formed.0, refl),
          (tt, p + w + length t + 1, r, (refl, refl), (refl, ends, refl)),
        ),
      ),
    )

-- ---- values one after another

pub all_none : (bounds : Bounds) (order : Order) (depth_left o : ℕ) (s : List ℕ) → SpelledAll bounds order depth_left o s NoValues o s
unfolding spelling
all_none bounds order depth_left o s = record { formed = tt; within = tt; indexes = tt; bytes = refl; place = omega arith }

pub all_more : (bounds : Bounds) (order : Order) (depth_left end : ℕ) (t : TypeTree) (o : ℕ) (s : List ℕ) (v : ValueTree) (p : ℕ) (u : List ℕ) (vs : ValueTrees) (q : ℕ) (r : List ℕ) → Spelled bounds order depth_left end t o s v p u → SpelledAll bounds order depth_left p u vs q r → SpelledAll bounds order depth_left o s (MoreValues v vs) q r
unfolding spelling
all_more bounds order depth_left end t o s v p u vs q r one more =
    let at : p ≡ o + length (spelling order o v) = one.place in
    record {
      formed = (one.formed, more.formed);
      within = (one.within, rw at at more.within);
      indexes = (one.indexes, more.indexes);
      bytes = joined s (spelling order o v) u (spellings order (o + length (spelling order o v)) vs) r one.bytes (rw at at more.bytes);
      place = simp length-append (let e : q ≡ o + length (spelling order o v) + length (spellings order (o + length (spelling order o v)) vs) = rw at at more.place in omega arith);
    }

pub all_parts : (bounds : Bounds) (order : Order) (depth_left end o : ℕ) (s : List ℕ) (v : ValueTree) (vs : ValueTrees) (q : ℕ) (r : List ℕ) → q ≤ end → SpelledAll bounds order depth_left o s (MoreValues v vs) q r
    → (p : ℕ) × (u : List ℕ) × Spelled bounds order depth_left end (type_of v) o s v p u × SpelledAll bounds order depth_left p u vs q r
unfolding spelling
all_parts bounds order depth_left end o s v vs q r bound h =
    let p = o + length (spelling order o v) in
    let long = length-append (spelling order o v) (spellings order p vs) in (
      p,
      spellings order p vs ++ r,
      record { has_type = refl; formed = h.formed.0; within = h.within.0; indexes = h.indexes.0; bytes = h.bytes ∙ append_assoc (spelling order o v) (spellings order p vs) r; place = refl; bound = omega (arith, h.place, long) },
      record { formed = h.formed.1; within = h.within.1; indexes = h.indexes.1; bytes = refl; place = omega (arith, h.place, long) },
    )

-- ---- containers

abbrev list_of : ValueTrees → List ValueTree
list_of NoValues = []
list_of (MoreValues x xs) = x ∷ list_of xs

trees_list_of : (xs : ValueTrees) → value_trees (list_of xs) ≡ xs
trees_list_of NoValues = refl
trees_list_of (MoreValues x xs) = ap (λ (u : ValueTrees). MoreValues x u) (trees_list_of xs)

-- what is passed inside is what is spelled
abbrev pub IsInside : (bounds : Bounds) (order : Order) (depth_left : ℕ) → (ℕ → TypeTree → Item ValueTree) → Type 0
IsInside bounds order depth_left inside = (end : ℕ) (t : TypeTree) (o : ℕ) (s : List ℕ) (v : ValueTree) (q : ℕ) (r : List ℕ) → (inside end t).Passed o s v q r ↔ Spelled bounds order depth_left end t o s v q r

module _ (bounds : Bounds) (order : Order) (depth_left : ℕ) (inside : ℕ → TypeTree → Item ValueTree) (is_inside : IsInside bounds order depth_left inside) where
  pub variant_to : (end o : ℕ) (s : List ℕ) (v : ValueTree) (q : ℕ) (r : List ℕ) → (items bounds order (suc depth_left) inside end VariantType).Passed o s v q r → Spelled bounds order (suc depth_left) end VariantType o s v q r
  unfolding spelling
  variant_to end o s v q r w =
      let read = w.3 in
      let a = w.4 in
      let held = a.3 in
      let b = a.4 in
      let ended = b.3 in
      let c = b.4 in
      let inner = (is_inside end a.0 b.1 b.2 c.0 c.1 c.2).0 c.3 in
      let x = c.0 in
      let same : a.0 ≡ type_of x = sym inner.has_type in
      let len : length (sig a.0) ≡ w.0 = held.3 in
      let fits = row_fits end w.1 w.0 read.4 in
      let place : b.1 ≡ o + length (ended_text order 1 (sig a.0)) = simp (length-append, length-num) (omega (arith, ended.1, held.4, read.2, len)) in
      let front : s ≡ ended_text order 1 (sig a.0) ++ b.2 = joined s (num order 1 (length (sig a.0))) w.2 (sig a.0 ++ 0 ∷ []) b.2 (rw len read.1) (joined w.2 (sig a.0) a.2 (0 ∷ []) b.2 held.2 ended.0) in
      let place_x : b.1 ≡ o + length (ended_text order 1 (sig (type_of x))) = rw (← same) place in
      rw (c.4.0, c.4.1, c.4.2) (record {
        has_type = refl;
        formed = (subst IsSingleType same held.0, inner.formed);
        within = rw place_x at inner.within;
        indexes = inner.indexes;
        bytes = joined s (ended_text order 1 (sig (type_of x))) b.2 (spelling order (o + length (ended_text order 1 (sig (type_of x)))) x) c.2 (rw (← same) front) (rw place_x at inner.bytes);
        place = rw (length-append (ended_text order 1 (sig (type_of x)))) (let e : c.1 ≡ (o + length (ended_text order 1 (sig (type_of x)))) + length (spelling order (o + length (ended_text order 1 (sig (type_of x)))) x) = rw place_x at inner.place in omega (arith, e));
        bound = inner.bound;
      })

  pub variant_from : (end o : ℕ) (s : List ℕ) (x : ValueTree) (q : ℕ) (r : List ℕ) → Spelled bounds order (suc depth_left) end VariantType o s (VariantValue x) q r → (items bounds order (suc depth_left) inside end VariantType).Passed o s (VariantValue x) q r
  unfolding spelling
  variant_from end o s x q r h =
      let t = sig (type_of x) in
      let p = o + length (ended_text order 1 t) in
      let head : length (ended_text order 1 t) ≡ 1 + (length t + 1) = simp (length-append, length-num) in
      let ends : q ≡ p + length (spelling order p x) = omega (arith, h.place, length-append (ended_text order 1 t) (spelling order p x)) in
      let there : s ≡ num order 1 (length t) ++ (t ++ 0 ∷ (spelling order p x ++ r)) = h.bytes ∙ simp append_assoc in
      let at : p ≡ o + 1 + length t + 1 = omega (arith, head) in
      let inner : Spelled bounds order depth_left end (type_of x) p (spelling order p x ++ r) x q r = record { has_type = refl; formed = h.formed.1; within = h.within; indexes = h.indexes; bytes = refl; place = ends; bound = h.bound } in (
        length t,
        o + 1,
        t ++ 0 ∷ (spelling order p x ++ r),
        (omega (arith, h.formed.0.1), there, refl, omega (arith, h.bound, ends, at), text_fits end (o + 1) (length t) (omega (arith, h.bound, ends, at))),
        (
          type_of x,
          o + 1 + length t,
          0 ∷ (spelling order p x ++ r),
          (h.formed.0, (text_single (type_of x) h.formed.0).0, refl, refl, refl),
          (
            tt,
            p,
            spelling order p x ++ r,
            (refl, at),
            (x, q, r, (is_inside end (type_of x) p (spelling order p x ++ r) x q r).1 inner, (refl, refl, refl)),
          ),
        ),
      )

  pub seq_to : (end : ℕ) (t : TypeTree) (vs before : List ValueTree) (o : ℕ) (s : List ℕ) (q : ℕ) (r : List ℕ) → Sequence (λ before. inside end t) before vs o s q r → AllOf t (value_trees vs) × SpelledAll bounds order depth_left o s (value_trees vs) q r
  seq_to end t [] before o s q r h = (tt, rw (h.0, h.1) (all_none bounds order depth_left o s))
  seq_to end t (v ∷ vs) before o s q r h =
      let one = (is_inside end t o s v h.0 h.1).0 h.2 in
      let more = seq_to end t vs (v ∷ before) h.0 h.1 q r h.3 in
      ((one.has_type, more.0), all_more bounds order depth_left end t o s v h.0 h.1 (value_trees vs) q r one more.1)

  pub seq_from : (end : ℕ) (t : TypeTree) (vs : ValueTrees) (before : List ValueTree) (o : ℕ) (s : List ℕ) (q : ℕ) (r : List ℕ) → q ≤ end → AllOf t vs → SpelledAll bounds order depth_left o s vs q r → Sequence (λ before. inside end t) before (list_of vs) o s q r
  unfolding spelling
  seq_from end t NoValues before o s q r bound types h = (omega (arith, h.place), sym h.bytes)
  seq_from end t (MoreValues v vs) before o s q r bound types h =
      let parts = all_parts bounds order depth_left end o s v vs q r bound h in
      (parts.0, parts.1, (is_inside end t o s v parts.0 parts.1).1 (subst (λ (u : TypeTree). Spelled bounds order depth_left end u o s v parts.0 parts.1) types.0 parts.2), seq_from end t vs (v ∷ before) parts.0 parts.1 q r bound types.1 parts.3)

  pub array_to : (end : ℕ) (t : TypeTree) (o : ℕ) (s : List ℕ) (v : ValueTree) (q : ℕ) (r : List ℕ) → (items bounds order (suc depth_left) inside end (ArrayType t)).Passed o s v q r → Spelled bounds order (suc depth_left) end (ArrayType t) o s v q r
  unfolding spelling
  array_to end t o s v q r w =
      let padded = w.3 in
      let a = w.4 in
      let n = a.0 in
      let read = a.3 in
      let b = a.4 in
      let padded' = b.3 in
      let c = b.4 in
      let xs = value_trees c.0 in
      let start = contents_start t o in
      let at : a.1 ≡ o + gap_to 4 o + 4 = omega (arith, padded.1, read.2) in
      let begins : b.1 ≡ start = padded'.1 ∙ ap (λ (p : ℕ). p + gap_to (alignment_of t) p) at in
      let rows = array_row_fits bounds t end a.1 n read.4 in
      let spelled = seq_to (b.1 + n) t c.0 [] b.1 b.2 c.1 c.2 c.3.0 in
      let all : SpelledAll bounds order depth_left start b.2 xs c.1 c.2 = subst (λ (p : ℕ). SpelledAll bounds order depth_left p b.2 xs c.1 c.2) begins spelled.1 in
      let len : n ≡ length (spellings order start xs) = omega (arith, all.place, c.3.1, begins) in
      rw (c.4.0, c.4.1, c.4.2) (record {
        has_type = refl;
        formed = (spelled.0, all.formed);
        within = (rw len at rows.0, all.within);
        indexes = all.indexes;
        bytes = joined s (pad 4 o) w.2 _ c.2 padded.0 (joined w.2 (num order 4 (length (spellings order start xs))) a.2 _ c.2 (rw len at read.1)
            (joined a.2 (pad (alignment_of t) (o + gap_to 4 o + 4)) b.2 (spellings order start xs) c.2 (rw at at padded'.0) all.bytes));
        place = simp (length-append, length-num, length-replicate) (omega (arith, all.place));
        bound = omega (arith, c.3.1, padded'.1, rows.1);
      })

  pub array_from : (end : ℕ) (t : TypeTree) (o : ℕ) (s : List ℕ) (xs : ValueTrees) (q : ℕ) (r : List ℕ) → Spelled bounds order (suc depth_left) end (ArrayType t) o s (ArrayValue t xs) q r → (items bounds order (suc depth_left) inside end (ArrayType t)).Passed o s (ArrayValue t xs) q r
  unfolding spelling
  array_from end t o s xs q r h =
      let p = o + gap_to 4 o in
      let start = contents_start t o in
      let c = spellings order start xs in
      let ends : q ≡ start + length c = simp (length-append, length-num, length-replicate) at h.place ∙ omega arith in
      let there : s ≡ pad 4 o ++ (num order 4 (length c) ++ (pad (alignment_of t) (p + 4) ++ (c ++ r))) = h.bytes ∙ simp append_assoc in
      let all : SpelledAll bounds order depth_left start (c ++ r) xs q r = record { formed = h.formed.1; within = h.within.1; indexes = h.indexes; bytes = refl; place = ends } in (
        tt,
        p,
        num order 4 (length c) ++ (pad (alignment_of t) (p + 4) ++ (c ++ r)),
        (there, refl, omega (arith, h.bound, ends)),
        (
          length c,
          p + 4,
          pad (alignment_of t) (p + 4) ++ (c ++ r),
          (omega (arith, h.within.0), refl, refl, omega (arith, h.bound, ends), fits_array_row bounds t end (p + 4) (length c) h.within.0 (omega (arith, h.bound, ends))),
          (
            tt,
            start,
            c ++ r,
            (refl, refl, omega (arith, h.bound, ends)),
            (list_of xs, q, r, (seq_from (start + length c) t xs [] start (c ++ r) q r (omega (arith, ends)) h.formed.0 all, ends), (ap (λ (u : ValueTrees). ArrayValue t u) (sym (trees_list_of xs)), refl, refl)),
          ),
        ),
      )

  pub fields_to : (end : ℕ) (ts : TypeTrees) (o : ℕ) (s : List ℕ) (vs : ValueTrees) (q : ℕ) (r : List ℕ) → (fields (inside end) ts).Passed o s vs q r → (types_of vs ≡ ts) × SpelledAll bounds order depth_left o s vs q r × (o ≤ end → q ≤ end)
  fields_to end NoTypes o s vs q r h = (rw h.0 refl, rw (h.0, h.1, h.2) (all_none bounds order depth_left o s), omega (arith, h.1))
  fields_to end (MoreTypes t ts) o s vs q r h =
      let one = (is_inside end t o s h.0 h.1 h.2).0 h.3 in
      let a = h.4 in
      let more = fields_to end ts h.1 h.2 a.0 a.1 a.2 a.3 in
      let d = a.4 in
      let all = all_more bounds order depth_left end t o s h.0 h.1 h.2 a.0 a.1 a.2 one more.1 in
      (rw (d.0, one.has_type, more.0) refl, rw (d.0, d.1, d.2) all, λ _. omega (arith, d.1, more.2 one.bound))

  pub fields_from : (end : ℕ) (vs : ValueTrees) (o : ℕ) (s : List ℕ) (q : ℕ) (r : List ℕ) → q ≤ end → SpelledAll bounds order depth_left o s vs q r → (fields (inside end) (types_of vs)).Passed o s vs q r
  unfolding spelling
  fields_from end NoValues o s q r bound h = (refl, omega (arith, h.place), sym h.bytes)
  fields_from end (MoreValues v vs) o s q r bound h =
      let parts = all_parts bounds order depth_left end o s v vs q r bound h in
      (v, parts.0, parts.1, (is_inside end (type_of v) o s v parts.0 parts.1).1 parts.2, (vs, q, r, fields_from end vs parts.0 parts.1 q r bound parts.3, (refl, refl, refl)))

  pub struct_to : (end : ℕ) (ts : TypeTrees) (o : ℕ) (s : List ℕ) (v : ValueTree) (q : ℕ) (r : List ℕ) → (items bounds order (suc depth_left) inside end (StructType ts)).Passed o s v q r → Spelled bounds order (suc depth_left) end (StructType ts) o s v q r
  unfolding spelling
  struct_to end ts o s v q r w =
      let padded = w.3 in
      let a = w.4 in
      let xs = a.0 in
      let spelled = fields_to end ts w.1 w.2 xs a.1 a.2 a.3 in
      let all : SpelledAll bounds order depth_left (o + gap_to 8 o) w.2 xs a.1 a.2 = rw padded.1 at spelled.1 in
      rw (a.4.0, a.4.1, a.4.2) (record {
        has_type = ap StructType spelled.0;
        formed = all.formed;
        within = all.within;
        indexes = all.indexes;
        bytes = joined s (pad 8 o) w.2 (spellings order (o + gap_to 8 o) xs) a.2 padded.0 all.bytes;
        place = simp (length-append, length-replicate) (omega (arith, all.place));
        bound = spelled.2 padded.2;
      })

  pub struct_from : (end o : ℕ) (s : List ℕ) (xs : ValueTrees) (q : ℕ) (r : List ℕ) → Spelled bounds order (suc depth_left) end (StructType (types_of xs)) o s (StructValue xs) q r → (items bounds order (suc depth_left) inside end (StructType (types_of xs))).Passed o s (StructValue xs) q r
  unfolding spelling
  struct_from end o s xs q r h =
      let p = o + gap_to 8 o in
      let c = spellings order p xs in
      let ends : q ≡ p + length c = simp (length-append, length-replicate) at h.place ∙ omega arith in
      let all : SpelledAll bounds order depth_left p (c ++ r) xs q r = record { formed = h.formed; within = h.within; indexes = h.indexes; bytes = refl; place = ends } in (
        tt,
        p,
        c ++ r,
        (h.bytes ∙ append_assoc (pad 8 o) c r, refl, omega (arith, h.bound, ends)),
        (xs, q, r, fields_from end xs p (c ++ r) q r h.bound all, (refl, refl, refl)),
      )

-- ---- an entry

pub entry_to : (bounds : Bounds) (order : Order) (depth_left : ℕ) (inside : ℕ → TypeTree → Item ValueTree) (end : ℕ) (k x : TypeTree) (o : ℕ) (s : List ℕ) (v : ValueTree) (q : ℕ) (r : List ℕ) → (items bounds order depth_left inside end (EntryType k x)).Passed o s v q r → Spelled bounds order depth_left end (EntryType k x) o s v q r
unfolding spelling
entry_to bounds order depth_left inside end k x o s v q r w =
    let padded = w.3 in
    let a = w.4 in
    let b = a.4 in
    let p = o + gap_to 8 o in
    let key : Spelled bounds order depth_left end k p w.2 a.0 a.1 a.2 = rw padded.1 at a.3 in
    let at : a.1 ≡ p + length (spelling order p a.0) = key.place in
    let held : Spelled bounds order depth_left end x (p + length (spelling order p a.0)) a.2 b.0 b.1 b.2 = rw at at b.3 in
    rw (b.4.0, b.4.1, b.4.2) (record {
      has_type = rw (key.has_type, held.has_type) refl;
      formed = (key.formed, held.formed);
      within = (key.within, held.within);
      indexes = (key.indexes, held.indexes);
      bytes = joined s (pad 8 o) w.2 _ b.2 padded.0 (joined w.2 (spelling order p a.0) a.2 (spelling order (p + length (spelling order p a.0)) b.0) b.2 key.bytes held.bytes);
      place = simp (length-append, length-replicate) (omega (arith, held.place));
      bound = held.bound;
    })

pub entry_from : (bounds : Bounds) (order : Order) (depth_left : ℕ) (inside : ℕ → TypeTree → Item ValueTree) (end o : ℕ) (s : List ℕ) (k x : ValueTree) (q : ℕ) (r : List ℕ) → Spelled bounds order depth_left end (EntryType (type_of k) (type_of x)) o s (EntryValue k x) q r → (items bounds order depth_left inside end (EntryType (type_of k) (type_of x))).Passed o s (EntryValue k x) q r
unfolding spelling
entry_from bounds order depth_left inside end o s k x q r h =
    let p = o + gap_to 8 o in
    let key = spelling order p k in
    let u = p + length key in
    let held = spelling order u x in
    let ends : q ≡ u + length held = simp (length-append, length-replicate) at h.place ∙ omega arith in
    let there : s ≡ pad 8 o ++ (key ++ (held ++ r)) = h.bytes ∙ simp append_assoc in (
      tt,
      p,
      key ++ (held ++ r),
      (there, refl, omega (arith, h.bound, ends)),
      (
        k,
        u,
        held ++ r,
        record { has_type = refl; formed = h.formed.0; within = h.within.0; indexes = h.indexes.0; bytes = refl; place = refl; bound = omega (arith, h.bound, ends) },
        (x, q, r, record { has_type = refl; formed = h.formed.1; within = h.within.1; indexes = h.indexes.1; bytes = refl; place = ends; bound = h.bound }, (refl, refl, refl)),
      ),
    )
