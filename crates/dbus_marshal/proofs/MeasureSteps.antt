-- Measures, level by level and one value after the other.
use Rattle.std.proofs.Common.{◌≡◌, ℕ, ◌+◌, ◌%◌, ◌<◌, ◌≤◌, refl, sym, ap, ◌∙◌, arith, ◌-◌, List, [], ◌∷◌, length, get_or, drop, Vec, Option, Some, None, subst}
use Rattle.std.proofs.Math.Decide.{dec_lt}
use Rattle.std.proofs.lemmas.Bool.{le-ltb, lt-ltb}
use Rattle.std.proofs.lemmas.List.{drop_more, drop_all}
use Rattle.std.specs.Prelude.{MatchOption}
use Rattle.dbus_value_model.specs.SizeLimits.{IsCapped, capped, CappedTells, coded, EndsAt, IsMeasured, AreMeasured}
use Rattle.dbus_texts.specs.Types.{sig, TypeTree, NumberType, NumberCode, BYTE, TextCode}
use Rattle.dbus_types.specs.Alignments.{width, length_width, alignment_of}
use Rattle.dbus_value_model.specs.declared.limits.Limits.{Limits}
use Rattle.dbus_value_model.specs.declared.order.Order.{Order}
use Rattle.dbus_value_model.specs.declared.value.Value.{Value, Bytes}
use Rattle.dbus_value_model.specs.Bytes.{gap_to}
use Rattle.dbus_value_model.specs.Sizes.{HasShortSignatures, HaveShortSignatures}
use Rattle.dbus_value_model.specs.Spelling.{ended_text, contents_start, spelling, spellings, IsWithinLimits, AreWithinLimits}
use Rattle.dbus_value_model.specs.Values.{ValueTree, ValueTrees, NumberValue, TextValue, VariantValue, ArrayValue, StructValue, EntryValue, NoValues, MoreValues, type_of}
use Rattle.dbus_value_model.specs.ValueViews.{value_tree, value_trees_of, byte_values}
use Rattle.dbus_value_model.proofs.Periods.{gap-of_4, gap-of_8, gap-of_number, gap-of_text, gap-of_type, values-period}
use Rattle.dbus_value_model.proofs.ValueRows.{tree-Bytes}
use Rattle.dbus_marshal.proofs.Sizing.{length-number, length-ended, length-text, length-variant, length-struct, length-entry, length-array, length-more, length-none}

-- Offsets past the message's limit, known by their remainder modulo 8.

pub capped-near : (o : ℕ) → o < 134217736 → capped o ≡ o
unfolding capped
capped-near o h = rw (lt-ltb _ _ h) refl

pub capped-far : (o : ℕ) → 134217736 ≤ o → capped o ≡ 134217736 + o % 8
unfolding capped
capped-far o h = rw (le-ltb _ _ h) refl

pub capped-bound : (o : ℕ) → IsCapped (capped o)
capped-bound o = elim (dec_lt o 134217736) [
  | yes h ↦ omega (arith, capped-near o h)
  | no h ↦ let far : 134217736 ≤ o = omega arith in omega (arith, capped-far o far)
]

pub capped-rest : (o : ℕ) → capped o % 8 ≡ o % 8
capped-rest o = elim (dec_lt o 134217736) [
  | yes h ↦ ap (λ (n : ℕ). n % 8) (capped-near o h)
  | no h ↦ let far : 134217736 ≤ o = omega arith in omega (arith, capped-far o far)
]

-- what is capped already stays
pub capped-same : (o : ℕ) → IsCapped o → capped o ≡ o
capped-same o low = elim (dec_lt o 134217736) [
  | yes h ↦ capped-near o h
  | no h ↦ let far : 134217736 ≤ o = omega arith in omega (arith, capped-far o far)
]

-- an offset within a message's limit is read off its capped one, and so is one past it
pub capped_tells : CappedTells
capped_tells limits o = elim (dec_lt o 134217736) [
  | yes h ↦ ((λ le. omega (arith, capped-near o h), λ le. omega (arith, capped-near o h)), λ le. capped-near o h)
  | no h ↦
      let far : 134217736 ≤ o = omega arith in
      ((λ le. omega (arith, limits.message_in), λ le. omega (arith, capped-far o far, limits.message_in)), λ le. absurd (omega (arith, limits.message_in)))
]

capped-more : (m n k : ℕ) → capped m ≡ capped n → capped (m + k) ≡ capped (n + k)
capped-more m n k e = elim (dec_lt m 134217736) [
  | yes h ↦ elim (dec_lt n 134217736) [
    | yes g ↦ let same : m ≡ n = omega (arith, capped-near m h, capped-near n g) in ap (λ (x : ℕ). capped (x + k)) same
    | no g ↦ let far : 134217736 ≤ n = omega arith in absurd (omega (arith, capped-near m h, capped-far n far))
  ]
  | no h ↦
      let far : 134217736 ≤ m = omega arith in
      elim (dec_lt n 134217736) [
        | yes g ↦ absurd (omega (arith, capped-near n g, capped-far m far))
        | no g ↦
            let away : 134217736 ≤ n = omega arith in
            let rest : m % 8 ≡ n % 8 = omega (arith, capped-far m far, capped-far n away) in
            omega (arith, capped-far (m + k) (omega arith), capped-far (n + k) (omega arith))
      ]
]

-- going on from a capped offset is going on from each that it stands for
pub capped-onward : (o at k : ℕ) → capped o ≡ at → capped (at + k) ≡ capped (o + k)
capped-onward o at k e =
    let low : IsCapped at = omega (arith, capped-bound o) in
    capped-more at o k (capped-same at low ∙ sym e)

pub onward-from : (o at k n end : ℕ) → capped o ≡ at → k ≡ n → end ≡ capped (at + k) → end ≡ capped (o + n)
onward-from o at k n end e same is = is ∙ capped-onward o at k e ∙ ap (λ (x : ℕ). capped (o + x)) same

-- and a capped step as far as the step
pub capped-step : (at n : ℕ) → capped (at + capped n) ≡ capped (at + n)
capped-step at n =
    let swap : (x : ℕ) → capped (x + at) ≡ capped (at + x) = λ x. ap capped (omega arith) in
    sym (swap (capped n)) ∙ capped-more (capped n) n at (capped-same (capped n) (capped-bound n)) ∙ swap n

-- the offsets that one stands for have its paddings
pub rest-of : (o at : ℕ) → capped o ≡ at → o % 8 ≡ at % 8
rest-of o at e = sym (capped-rest o) ∙ ap (λ (n : ℕ). n % 8) e

all-short : (bs : List ℕ) → HaveShortSignatures (byte_values bs)
all-short [] = tt
all-short (b ∷ bs) = (tt, all-short bs)

pub short_bytes : {A : Type 0} (bs : Vec ℕ A) → HasShortSignatures (value_tree {A = A} (Bytes bs))
short_bytes bs = subst HasShortSignatures (sym (tree-Bytes bs)) (all-short bs.items)

module _ (limits : Limits) where
  -- the same end, and the same arrays
  ends-as : (r : Option ℕ) (m n : ℕ) (K L : Type 0) → m ≡ n → (K → L) → (L → K) → EndsAt m K r → EndsAt n L r
  ends-as None m n K L e there back h = λ l. h (back l)
  ends-as (Some p) m n K L e there back h = (there h.0, h.1 ∙ ap capped e)

  -- ---- a level at a time

  pub measured-number : (k : NumberCode) (n at end : ℕ) → end ≡ capped (at + (gap_to (width k) at + width k)) → IsMeasured limits.array (NumberValue k n) at (Some end)
  measured-number k n at end is = record {
    from = λ order o h.
        let same : gap_to (width k) at + width k ≡ length (spelling order o (NumberValue k n)) = omega (arith, length-number order o n k, gap-of_number k o at (rest-of o at h)) in
        (tt, onward-from o at (gap_to (width k) at + width k) (length (spelling order o (NumberValue k n))) end h same is);
  }

  pub measured-text : (k : TextCode) (t : List ℕ) (at end : ℕ) → end ≡ capped (at + (gap_to (length_width k) at + (length_width k + (length t + 1)))) → IsMeasured limits.array (TextValue k t) at (Some end)
  measured-text k t at end is = record {
    from = λ order o h.
        let w = length_width k in
        let n = length t in
        let same : gap_to w at + (w + (n + 1)) ≡ length (spelling order o (TextValue k t)) = omega (arith, length-text order o k t, gap-of_text k o at (rest-of o at h)) in
        (tt, onward-from o at (gap_to w at + (w + (n + 1))) (length (spelling order o (TextValue k t))) end h same is);
  }

  pub measured-variant : (x : ValueTree) (at p : ℕ) (r : Option ℕ) → p ≡ capped (at + (gap_to 1 at + (1 + (length (sig (type_of x)) + 1)))) → IsMeasured limits.array x p r → IsMeasured limits.array (VariantValue x) at r
  unfolding gap_to
  measured-variant x at p r is inner = record {
    from = λ order o h.
        let n = length (sig (type_of x)) in
        let d = length (ended_text order 1 (sig (type_of x))) in
        let same : gap_to 1 at + (1 + (n + 1)) ≡ d = omega (arith, length-ended order 1 (sig (type_of x))) in
        let there : capped (o + d) ≡ p = sym (onward-from o at (gap_to 1 at + (1 + (n + 1))) d p h same is) in
        ends-as r (o + d + length (spelling order (o + d) x)) (o + length (spelling order o (VariantValue x))) (IsWithinLimits limits.array order (o + d) x) (IsWithinLimits limits.array order o (VariantValue x))
        (omega (arith, length-variant order o x)) (λ w. w) (λ w. w) (inner.from order (o + d) there);
  }

  pub measured-struct : (xs : ValueTrees) (at p : ℕ) (r : Option ℕ) → p ≡ capped (at + gap_to 8 at) → AreMeasured limits.array xs p r → IsMeasured limits.array (StructValue xs) at r
  measured-struct xs at p r is inner = record {
    from = λ order o h.
        let q = o + gap_to 8 o in
        let there : capped q ≡ p = sym (onward-from o at (gap_to 8 at) (gap_to 8 o) p h (sym (gap-of_8 o at (rest-of o at h))) is) in
        ends-as r (q + length (spellings order q xs)) (o + length (spelling order o (StructValue xs))) (AreWithinLimits limits.array order q xs) (IsWithinLimits limits.array order o (StructValue xs))
        (omega (arith, length-struct order o xs)) (λ w. w) (λ w. w) (inner.from order q there);
  }

  pub measured-entry : (k v : ValueTree) (at p q : ℕ) (r : Option ℕ) → p ≡ capped (at + gap_to 8 at) → IsMeasured limits.array k p (Some q) → IsMeasured limits.array v q r → IsMeasured limits.array (EntryValue k v) at r
  measured-entry k v at p q r is key held = record {
    from = λ order o h.
        let b = o + gap_to 8 o in
        let n = length (spelling order b k) in
        let there : capped b ≡ p = sym (onward-from o at (gap_to 8 at) (gap_to 8 o) p h (sym (gap-of_8 o at (rest-of o at h))) is) in
        let first = key.from order b there in
        ends-as r (b + n + length (spelling order (b + n) v)) (o + length (spelling order o (EntryValue k v))) (IsWithinLimits limits.array order (b + n) v) (IsWithinLimits limits.array order o (EntryValue k v))
        (omega (arith, length-entry order o k v)) (λ w. (first.0, w)) (λ w. w.1) (held.from order (b + n) (sym first.1));
  }

  pub measured-key : (k v : ValueTree) (at p : ℕ) → p ≡ capped (at + gap_to 8 at) → IsMeasured limits.array k p None → IsMeasured limits.array (EntryValue k v) at None
  measured-key k v at p is key = record {
    from = λ order o h.
        let there : capped (o + gap_to 8 o) ≡ p = sym (onward-from o at (gap_to 8 at) (gap_to 8 o) p h (sym (gap-of_8 o at (rest-of o at h))) is) in
        λ w. key.from order (o + gap_to 8 o) there w.0;
  }

  pub measured-none : (at : ℕ) → IsCapped at → AreMeasured limits.array NoValues at (Some at)
  measured-none at low = record {
    from = λ order o h. (tt, let same : o ≡ o + length (spellings order o NoValues) = omega (arith, length-none order o) in sym h ∙ ap capped same);
  }

  pub measured-more : (x : ValueTree) (xs : ValueTrees) (at p : ℕ) (r : Option ℕ) → IsMeasured limits.array x at (Some p) → AreMeasured limits.array xs p r → AreMeasured limits.array (MoreValues x xs) at r
  measured-more x xs at p r first rest = record {
    from = λ order o h.
        let n = length (spelling order o x) in
        let f = first.from order o h in
        ends-as r (o + n + length (spellings order (o + n) xs)) (o + length (spellings order o (MoreValues x xs))) (AreWithinLimits limits.array order (o + n) xs) (AreWithinLimits limits.array order o (MoreValues x xs))
        (omega (arith, length-more order o x xs)) (λ w. (f.0, w)) (λ w. w.1) (rest.from order (o + n) (sym f.1));
  }

  pub measured-first : (x : ValueTree) (xs : ValueTrees) (at : ℕ) → IsMeasured limits.array x at None → AreMeasured limits.array (MoreValues x xs) at None
  measured-first x xs at first = record { from = λ order o h. λ w. first.from order o h w.0 }

  pub measured-one : (x : ValueTree) (at : ℕ) (r : Option ℕ) → IsMeasured limits.array x at r → AreMeasured limits.array (MoreValues x NoValues) at r
  measured-one x at r first = record {
    from = λ order o h.
        let n = length (spelling order o x) in
        ends-as r (o + n) (o + length (spellings order o (MoreValues x NoValues))) (IsWithinLimits limits.array order o x) (AreWithinLimits limits.array order o (MoreValues x NoValues))
        (omega (arith, length-more order o x NoValues, length-none order (o + n))) (λ w. (w, tt)) (λ w. w.0) (first.from order o h);
  }

  pub measured-coded : (x : ValueTree) (at p q s : ℕ) (r : Option ℕ) → p ≡ capped (at + gap_to 8 at) → q ≡ capped (p + (gap_to 1 p + 1)) → s ≡ capped (q + (gap_to 1 q + (1 + (length (sig (type_of x)) + 1)))) →
      IsMeasured limits.array x s r → (code : ℕ) → IsMeasured limits.array (coded code x) at r
  measured-coded x at p q s r begins suffix is inner code =
      let held = measured-one (VariantValue x) q r (measured-variant x q s r is inner) in
      measured-struct (MoreValues (NumberValue BYTE code) (MoreValues (VariantValue x) NoValues)) at p r begins
      (measured-more (NumberValue BYTE code) (MoreValues (VariantValue x) NoValues) p q r (measured-number BYTE code p q suffix) held)

  -- ---- arrays

  -- where the contents begin, seen from a capped offset
  contents-from : (t : TypeTree) (o at p s : ℕ) → capped o ≡ at → p ≡ capped (at + (gap_to 4 at + 4)) → s ≡ capped (p + gap_to (alignment_of t) p) → capped (contents_start t o) ≡ s
  contents-from t o at p s h is begins =
      let head : gap_to 4 at + 4 ≡ gap_to 4 o + 4 = omega (arith, gap-of_4 o at (rest-of o at h)) in
      let same : o + (gap_to 4 o + 4) ≡ o + gap_to 4 o + 4 = omega arith in
      let there : capped (o + gap_to 4 o + 4) ≡ p = sym (onward-from o at (gap_to 4 at + 4) (gap_to 4 o + 4) p h head is ∙ ap capped same) in
      let b = o + gap_to 4 o + 4 in
      sym (onward-from b p (gap_to (alignment_of t) p) (gap_to (alignment_of t) b) s there (sym (gap-of_type t b p (rest-of b p there))) begins)

  -- contents that begin at a small offset are within the array's limit exactly where their capped
  -- end is, which is then exact
  near-end : (m n e : ℕ) → m < 8 → e ≡ capped (m + n) → e ≤ m + limits.array → (n ≤ limits.array) × (e ≡ m + n)
  near-end m n e small is le = elim (dec_lt (m + n) 134217736) [
    | yes h ↦ (omega (arith, capped-near (m + n) h), omega (arith, capped-near (m + n) h))
    | no h ↦ let far : 134217736 ≤ m + n = omega arith in absurd (omega (arith, capped-far (m + n) far, limits.array_in))
  ]

  far-end : (m n e : ℕ) → m < 8 → e ≡ capped (m + n) → m + limits.array < e → limits.array < n
  far-end m n e small is lt = elim (dec_lt (m + n) 134217736) [
    | yes h ↦ omega (arith, capped-near (m + n) h)
    | no h ↦ omega (arith, limits.array_in)
  ]

  -- contents as they are measured from a small offset, 8 bytes apart from where they begin
  module _ (t : TypeTree) (xs : ValueTrees) (at p s : ℕ) (is : p ≡ capped (at + (gap_to 4 at + 4))) (begins : s ≡ capped (p + gap_to (alignment_of t) p)) where
    contents : (r : Option ℕ) → AreMeasured limits.array xs (s % 8) r → (order : Order) (o : ℕ) → capped o ≡ at →
        EndsAt (s % 8 + length (spellings order (contents_start t o) xs)) (AreWithinLimits limits.array order (contents_start t o) xs) r
    contents r inner order o h =
        let z = contents_start t o in
        let m = s % 8 in
        let low : m < 134217736 = omega arith in
        let again : m % 8 ≡ s % 8 = omega arith in
        let rest : m % 8 ≡ z % 8 = again ∙ sym (rest-of z s (contents-from t o at p s h is begins)) in
        let same : m + length (spellings order m xs) ≡ m + length (spellings order z xs) = omega (arith, ap length (values-period order xs m z rest).0) in
        ends-as r (m + length (spellings order m xs)) (m + length (spellings order z xs)) (AreWithinLimits limits.array order m xs) (AreWithinLimits limits.array order z xs) same
        ((values-period order xs m z rest).1 limits.array) ((values-period order xs z m (sym rest)).1 limits.array) (inner.from order m (capped-near m low))

    pub measured-items : AreMeasured limits.array xs (s % 8) None → IsMeasured limits.array (ArrayValue t xs) at None
    measured-items inner = record { from = λ order o h. λ w. contents None inner order o h w.1 }

    pub measured-array : (e : ℕ) (r : Option ℕ) → AreMeasured limits.array xs (s % 8) (Some e) → MatchOption r (s % 8 + limits.array < e) (λ end. (e ≤ s % 8 + limits.array) × (end ≡ capped (s - s % 8 + e))) →
        IsMeasured limits.array (ArrayValue t xs) at r
    measured-array e None inner over = record {
      from = λ order o h.
          let n = length (spellings order (contents_start t o) xs) in
          let far = far-end (s % 8) n e (omega arith) (contents (Some e) inner order o h).1 over in
          λ w. absurd (omega (arith, far, w.0));
    }
    measured-array e (Some end) inner fits = record {
      from = λ order o h.
          let z = contents_start t o in
          let n = length (spellings order z xs) in
          let all = contents (Some e) inner order o h in
          let near = near-end (s % 8) n e (omega arith) all.1 fits.0 in
          let shift : s - s % 8 + e ≡ s + n = omega (arith, near.1) in
          ((near.0, all.0), fits.1 ∙ ap capped shift ∙ capped-onward z s n (contents-from t o at p s h is begins) ∙ ap capped (sym (length-array order o t xs)));
    }

  -- ---- bytes

  length-bytes : (order : Order) (o : ℕ) (bs : List ℕ) → length (spellings order o (byte_values bs)) ≡ length bs
  unfolding gap_to
  length-bytes order o [] = length-none order o
  length-bytes order o (b ∷ bs) =
      let x = NumberValue BYTE b in
      let p = o + length (spelling order o x) in
      omega (arith, length-more order o x (byte_values bs), length-number order o b BYTE, length-bytes order p bs)

  bytes-within : (order : Order) (o : ℕ) (bs : List ℕ) → AreWithinLimits limits.array order o (byte_values bs)
  bytes-within order o [] = tt
  bytes-within order o (b ∷ bs) = (tt, bytes-within order (o + length (spelling order o (NumberValue BYTE b))) bs)

  pub measured-bytes : (bs : List ℕ) (at p e : ℕ) (r : Option ℕ) → p ≡ capped (at + (gap_to 4 at + 4)) → e ≡ capped (p % 8 + capped (length bs)) →
      MatchOption r (p % 8 + limits.array < e) (λ end. (e ≤ p % 8 + limits.array) × (end ≡ capped (p - p % 8 + e))) → IsMeasured limits.array (ArrayValue (NumberType BYTE) (byte_values bs)) at r
  unfolding gap_to
  measured-bytes bs at p e r is ends fits =
      let low : IsCapped p = omega (arith, capped-bound (at + (gap_to 4 at + 4))) in
      let none : p ≡ p + gap_to 1 p = omega arith in
      let all : e ≡ capped (p % 8 + length bs) = ends ∙ capped-step (p % 8) (length bs) in
      measured-array (NumberType BYTE) (byte_values bs) at p p is (sym (capped-same p low) ∙ ap capped none) e r
      (record { from = λ order o h. (bytes-within order o bs, onward-from o (p % 8) (length bs) (length (spellings order o (byte_values bs))) e h (sym (length-bytes order o bs)) all) })
      fits

  -- ---- along a list

  pub measured-rest : {A : Type 0} (vs : List (Value A)) (i at p : ℕ) (r : Option ℕ) (v : Value A) → i < length vs → v ≡ get_or vs i v → IsMeasured limits.array (value_tree v) at (Some p) →
      AreMeasured limits.array (value_trees_of (drop (i + 1) vs)) p r → AreMeasured limits.array (value_trees_of (drop i vs)) at r
  measured-rest {A} vs i at p r v lt e first rest =
      let here : IsMeasured limits.array (value_tree (get_or vs i v)) at (Some p) = subst (λ (x : Value A). IsMeasured limits.array (value_tree x) at (Some p)) e first in
      subst (λ (l : List (Value A)). AreMeasured limits.array (value_trees_of l) at r) (sym (drop_more vs i v lt))
      (measured-more (value_tree (get_or vs i v)) (value_trees_of (drop (i + 1) vs)) at p r here rest)

  pub measured-stop : {A : Type 0} (vs : List (Value A)) (i at : ℕ) (v : Value A) → i < length vs → v ≡ get_or vs i v → IsMeasured limits.array (value_tree v) at None →
      AreMeasured limits.array (value_trees_of (drop i vs)) at None
  measured-stop {A} vs i at v lt e first =
      let here : IsMeasured limits.array (value_tree (get_or vs i v)) at None = subst (λ (x : Value A). IsMeasured limits.array (value_tree x) at None) e first in
      subst (λ (l : List (Value A)). AreMeasured limits.array (value_trees_of l) at None) (sym (drop_more vs i v lt))
      (measured-first (value_tree (get_or vs i v)) (value_trees_of (drop (i + 1) vs)) at here)

  pub measured-end : {A : Type 0} (vs : List (Value A)) (i at : ℕ) → length vs ≤ i → IsCapped at → AreMeasured limits.array (value_trees_of (drop i vs)) at (Some at)
  measured-end {A} vs i at le low = subst (λ (l : List (Value A)). AreMeasured limits.array (value_trees_of l) at (Some at)) (sym (drop_all i vs le)) (measured-none at low)

  pub text-steps : (at g w n p end : ℕ) → p ≡ capped (at + (g + w)) → end ≡ capped (p + capped n + 1) → end ≡ capped (at + (g + (w + (n + 1))))
  text-steps at g w n p end is ends =
      let a : p + capped n + 1 ≡ p + 1 + capped n = omega arith in
      let b : p + 1 + n ≡ p + (n + 1) = omega arith in
      let c : at + (g + w) + (n + 1) ≡ at + (g + (w + (n + 1))) = omega arith in
      ends ∙ ap capped a ∙ capped-step (p + 1) n ∙ ap capped b ∙ capped-onward (at + (g + w)) p (n + 1) (sym is) ∙ ap capped c

pub ruleset measuring = (measured-coded, text-steps)
