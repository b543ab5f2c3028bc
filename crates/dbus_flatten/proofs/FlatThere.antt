-- Values that stand in the bytes, as items of a row.
use Rattle.std.proofs.Common.{◌≡◌, ℕ, zero, suc, ◌+◌, ◌-◌, ◌<◌, ◌^◌, List, [], ◌∷◌, ◌++◌, length, get_or, set, take, drop, Bool, true, false, cond, refl, sym, ap, subst, ◌∙◌, arith, append-nil}
use Rattle.std.specs.Prelude.{nat_lt}
use Rattle.std.proofs.Math.Seq.{drop-nil, take-nil}
use Rattle.std.proofs.lemmas.Bool.{lt-ltb, le-ltb, ltb-true, ltb-false}
use Rattle.dbus_texts.specs.Types.{sig, sigs}
use Rattle.dbus_types.specs.Alignments.{alignment_of}
use Rattle.dbus_types.specs.SignatureCodes.{first_code}
use Rattle.dbus_types.proofs.TypeCodes.{code_is}
use Rattle.dbus_value_model.specs.Bytes.{gap_to}
use Rattle.dbus_value_model.specs.Reading.{number_of}
use Rattle.dbus_value_model.specs.declared.order.Order.{Order}
use Rattle.dbus_value_model.specs.Spelling.{spellings, contents_start}
use Rattle.dbus_value_model.specs.Values.{ValueTree, VariantValue, type_of, types_of}
use Rattle.dbus_value_model.proofs.Periods.{no_gap}
use Rattle.dbus_walk.specs.declared.container.Container.TheVariants as kind
use Rattle.dbus_walk.specs.Containers.{IsOf, parts, number_width}
use Rattle.dbus_walk.specs.Standing.{Stands}
use Rattle.dbus_walk.proofs.Containers.{ArrayStands}
use Rattle.dbus_walk.proofs.Parts.{NumberStands, TextStands}
use Rattle.dbus_walk.proofs.ReadThere.{number_read}
use Rattle.dbus_flatten.specs.declared.flat_item.FlatItem.{FlatItem}
use Rattle.dbus_flatten.specs.declared.flattener.Flattener.{Flattener}
use Rattle.dbus_flatten.specs.Flattening.{item, flat, in_word, over, AreOver, Appends, IsListed, IsStroke, puts}
use Rattle.dbus_flatten.specs.FlattenerLaws.{flat_stroke, word_is, word_full, word_same}

abbrev pub made : (n o l c e : ℕ) → FlatItem
made n o l c e = record { number = n; offset = o; length = l; code = c; element = e }

same_item : {n n' o o' l l' c c' e e' : ℕ} → n ≡ n' → o ≡ o' → l ≡ l' → c ≡ c' → e ≡ e' → made n o l c e ≡ made n' o' l' c' e'
same_item {n} {n'} {o} {o'} {l} {l'} {c} {c'} {e} {e'} a b d f g =
    ap (λ (k : ℕ). made k o l c e) a ∙ ap (λ (k : ℕ). made n' k l c e) b ∙ ap (λ (k : ℕ). made n' o' k c e) d ∙ ap (λ (k : ℕ). made n' o' l' k e) f ∙ ap (made n' o' l' c') g

-- an item that is gained, under another name
pub gained_as : {a b : Flattener} {i : FlatItem} {is : List FlatItem} → i ∷ [] ≡ is → Appends a (i ∷ []) b → Appends a is b
gained_as {a} {b} e h = subst (λ (l : List FlatItem). Appends a l b) e h

module _ {order : Order} {depth_left : ℕ} {types : List ℕ} {at : ℕ} {bytes : List ℕ} {v : ValueTree} {rest : List ℕ} (s : Stands order depth_left types at bytes v rest) where
  coded : {u : ValueTree} → v ≡ u → first_code (type_of u) ≡ get_or types 0 0
  coded is = ap (λ (u : ValueTree). first_code (type_of u)) (sym is) ∙ code_is (type_of v) types s.text

  pub number_flat : (size start : ℕ) (p : NumberStands s size) → start ≡ at + gap_to size at → {n l c : ℕ} → n ≡ number_of order (take size (drop start bytes)) → l ≡ size → c ≡ get_or types 0 0
      → made n start l c 0 ∷ [] ≡ flat order at v
  unfolding flat
  number_flat size start p place read long code =
      let one = same_item (read ∙ number_read s size start p place) (place ∙ ap (λ (k : ℕ). at + gap_to k at) (sym p.wide)) (long ∙ sym p.wide) (code ∙ sym (coded p.is)) refl in
      ap (λ (i : FlatItem). i ∷ []) one ∙ ap (flat order at) (sym p.is)

  pub text_flat : (size : ℕ) (p : TextStands s size) → {o l c : ℕ} → o ≡ at + gap_to size at + size → l ≡ length p.text → c ≡ get_or types 0 0 → made 0 o l c 0 ∷ [] ≡ flat order at v
  unfolding flat
  text_flat size p place long code =
      let one = same_item refl (place ∙ ap (λ (k : ℕ). at + gap_to k at + k) (sym p.wide)) long (code ∙ sym (coded p.is)) refl in
      ap (λ (i : FlatItem). i ∷ []) one ∙ ap (flat order at) (sym p.is)

  module _ (p : ArrayStands s) where
    pub array_item : {o l c e : ℕ} → o ≡ contents_start p.type at → l ≡ p.n → c ≡ 97 → e ≡ get_or types 1 0 → made 0 o l c e ≡ item order at v 0
    array_item begins counts code element =
        let long : p.n ≡ length (spellings order (contents_start p.type at) p.xs) = omega (arith, p.elements.ends) in
        same_item refl begins (counts ∙ long) code (element ∙ sym p.code) ∙ ap (λ (u : ValueTree). item order at u 0) (sym p.is)

    pub stroke_flat : {o l c e : ℕ} → o ≡ contents_start p.type at → l ≡ p.n → c ≡ 97 → e ≡ get_or types 1 0 → (size : ℕ) → nat_lt 0 size ≡ true → size ≡ number_width p.type → made 0 o l c e ∷ [] ≡ flat order at v
    stroke_flat begins counts code element size some wide =
        let stroke : IsStroke v = subst IsStroke (sym p.is) (subst (λ (k : ℕ). nat_lt 0 k ≡ true) wide some) in
        ap (λ (i : FlatItem). i ∷ []) (array_item begins counts code element) ∙ sym (flat_stroke order at v stroke)

    pub array_listed : nat_lt 0 (number_width p.type) ≡ false → IsListed v
    array_listed none = subst IsListed (sym p.is) none

-- a container that opens
pub variant_item : (order : Order) (at : ℕ) (v : ValueTree) {start : ℕ} → IsOf kind.Variant v → start ≡ at + gap_to (alignment_of (type_of v)) at → (types : List ℕ) → sigs (types_of (parts v)) ≡ types
    → {o l c : ℕ} → o ≡ start + 1 → l ≡ length types → c ≡ 118 → made 0 o l c 0 ≡ item order at v 0
variant_item order at (VariantValue x) of place types text offset long code =
    let there : _ ≡ at + 1 = omega (arith, offset, place, no_gap at) in
    same_item refl there (long ∙ sym (ap length (sym (append-nil (sig (type_of x))) ∙ text))) code refl
variant_item order at v of place types text offset long code = absurd of

-- ---- the whole row, over what was there

-- items put from a place on, as many as there are places
lay : (at : ℕ) → List FlatItem → List FlatItem → List FlatItem
lay at out [] = out
lay at out (i ∷ is) = lay (suc at) (set out at i) is

lay_behind : (at : ℕ) (o : FlatItem) (out xs : List FlatItem) → lay (suc at) (o ∷ out) xs ≡ o ∷ lay at out xs
unfolding lay
lay_behind at o out [] = refl
lay_behind at o out (x ∷ xs) = lay_behind (suc at) o (set out at x) xs

lay_nowhere : (at : ℕ) (xs : List FlatItem) → lay at [] xs ≡ []
unfolding lay
lay_nowhere at [] = refl
lay_nowhere at (x ∷ xs) = lay_nowhere (suc at) xs

lay_over : (out xs : List FlatItem) → lay 0 out xs ≡ over xs out
unfolding lay
lay_over [] xs = lay_nowhere 0 xs ∙ sym (drop-nil (length xs))
lay_over (o ∷ out) [] = refl
lay_over (o ∷ out) (x ∷ xs) = lay_behind 0 x out xs ∙ ap (λ (l : List FlatItem). x ∷ l) (lay_over out xs)

puts_there : (first n at : ℕ) (out xs : List FlatItem) → first + at ≡ n → puts first n out xs ≡ lay at out xs
unfolding lay
puts_there first n at out [] is = refl
puts_there first n at out (x ∷ xs) is =
    let place : n - first ≡ at = omega (arith, is) in
    ap (λ (b : Bool). puts first (suc n) (cond b out (set out (n - first) x)) xs) (le-ltb n first (omega (arith, is))) ∙ ap (λ (k : ℕ). puts first (suc n) (set out k x) xs) place
    ∙ puts_there first (suc n) (suc at) (set out at x) xs (omega (arith, is))

puts_over : (first n before : ℕ) (out xs : List FlatItem) → n + before ≡ first → puts first n out xs ≡ over (drop before xs) out
puts_over first n zero out xs is = puts_there first n 0 out xs (omega (arith, is)) ∙ lay_over out xs
puts_over first n (suc before) out [] is = sym (ap (λ (l : List FlatItem). l ++ out) (take-nil (length out)))
puts_over first n (suc before) out (x ∷ xs) is =
    ap (λ (b : Bool). puts first (suc n) (cond b out (set out (n - first) x)) xs) (lt-ltb n first (omega (arith, is))) ∙ puts_over first (suc n) before out xs (omega (arith, is))

-- a word is its own
word_of : (n : ℕ) → n < 2 ^ 64 → in_word n ≡ n
word_of n fits = of (nat_lt n (2 ^ 64 - 1)) refl
  where
    of : (b : Bool) → nat_lt n (2 ^ 64 - 1) ≡ b → in_word n ≡ n
    of true e = word_is n (ltb-true n (2 ^ 64 - 1) e)
    of false e = let most = ltb-false n (2 ^ 64 - 1) e in word_full n most ∙ omega (arith, fits, most)

-- the items that a flattener has gained since it had none
module _ (items : List FlatItem) (s t : Flattener) (h : Appends s items t) (none : s.count ≡ 0) (fits : t.count < 2 ^ 64) where
  gained_words : in_word t.count ≡ in_word (length items)
  gained_words = let all : s.count + length items ≡ length items = omega (arith, none) in h.counted ∙ ap in_word all

  pub count_of : t.count ≡ in_word (length items)
  count_of = sym (word_of t.count fits) ∙ gained_words

  pub row_of : AreOver items s.first s.out.now t.out.now t.count
  row_of = record {
    counted = count_of;
    written = λ small.
        let count : length items ≡ t.count = word_same (length items) t.count (sym gained_words) small in
        h.written (omega (arith, count, small, none)) ∙ ap (λ (n : ℕ). puts s.first n s.out.now items) none ∙ puts_over s.first 0 s.first s.out.now items (omega arith);
  }
