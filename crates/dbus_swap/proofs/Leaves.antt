-- What byteswaps numbers, texts, and arrays as they open.
use Rattle.std.proofs.Common.{◌≡◌, ℕ, ◌+◌, ◌≤◌, List, [], ◌∷◌, ◌++◌, length, get_or, take, drop, reverse, refl, sym, ap, ◌∙◌, arith, ◌<◌, subst, ◌⊎◌}
use Rattle.std.proofs.lemmas.List.{take_at, drop_at, drop-drop, drop_more, take-append-drop, reverse-reverse, length-replicate}
use Rattle.dbus_value_model.specs.Bytes.{low_first, num, gap_to, pad}
use Rattle.dbus_value_model.specs.declared.order.Order.{Order}
use Rattle.dbus_value_model.specs.declared.order.Order.TheVariants.{Little, Big}
use Rattle.dbus_value_model.proofs.Numbers.{length-num}
use Rattle.dbus_texts.specs.Types.{NumberCode, TextCode, TypeTree, NumberType, sig}
use Rattle.dbus_types.specs.Alignments.{width, length_width, alignment_of}
use Rattle.dbus_types.specs.SignatureCodes.{first_code}
use Rattle.dbus_value_model.specs.Spelling.{spelling, spellings, contents_start, ended_text}
use Rattle.dbus_value_model.specs.Values.{ValueTree, ValueTrees, NumberValue, TextValue, VariantValue, ArrayValue, StructValue, EntryValue, AllOf, type_of}
use Rattle.dbus_message_model.proofs.BothOrders.{any_lengths}
use Rattle.dbus_value_validator.proofs.NumberArrays.{comes_aligned}
use Rattle.dbus_walk.specs.declared.container.Container.{Container}
use Rattle.dbus_walk.specs.declared.container.Container.TheVariants as kind
use Rattle.dbus_walk.specs.Containers.{IsOf, front, number_width}
use Rattle.dbus_walk.specs.Standing.{Stands}
use Rattle.dbus_walk.proofs.Containers.{ArrayStands, array_stands, elements_there}
use Rattle.dbus_walk.proofs.Parts.{number_is, number_stands, long_stands, short_stands}
use Rattle.dbus_swap.specs.Byteswapping.{other, IsPut, Replaces}
use Rattle.dbus_swap.specs.ByteswapLaws.{nothing_put, then_put}

-- A number's bytes in one order, reversed, are its bytes in the other.

pub byteswapped_num : (order : Order) (w n : ℕ) → reverse (num order w n) ≡ num (other order) w n
unfolding num
byteswapped_num Little w n = refl
byteswapped_num Big w n = reverse-reverse (low_first w n)

-- a number of one byte is the same
pub one_byte : (order : Order) (n : ℕ) → num order 1 n ≡ num (other order) 1 n
unfolding num low_first
one_byte Little n = refl
one_byte Big n = refl

-- in place of a number stands the byteswapped one
pub number_put : (order : Order) (w n at : ℕ) (out now r : List ℕ) → drop at out ≡ num order w n ++ r
    → now ≡ take at out ++ (reverse (take w (drop at out)) ++ drop (at + w) out) → IsPut at (num (other order) w n) r out now
number_put order w n at out now r is e =
    let front : take w (drop at out) ≡ num order w n = ap (take w) is ∙ take_at (num order w n) r w (length-num order w n) in
    let rest : drop (at + w) out ≡ r = sym (drop-drop w at out) ∙ ap (drop w) is ∙ drop_at (num order w n) r w (length-num order w n) in
    e ∙ rw (front, rest, byteswapped_num order w n) refl

-- and where no more is done it is byteswapped
pub byte_byteswapped : (at : ℕ) (l : List ℕ) → at + 1 ≤ length l → l ≡ take at l ++ (reverse (take 1 (drop at l)) ++ drop (at + 1) l)
byte_byteswapped at l h =
    let is = drop_more l at 0 (omega arith) in
    let front : take 1 (drop at l) ≡ get_or l at 0 ∷ [] = ap (take 1) is in
    sym (take-append-drop at l) ∙ ap (λ (m : List ℕ). take at l ++ m) is ∙ ap (λ (m : List ℕ). take at l ++ (reverse m ++ drop (at + 1) l)) (sym front)

-- a number after its padding, and before bytes that are the same in both orders
module _ (order : Order) (at size start n : ℕ) (out now : List ℕ) (begins : start ≡ at + gap_to size at)
    (byteswapped : now ≡ take start out ++ (reverse (take size (drop start out)) ++ drop (start + size) out)) where
  after_pad : start ≡ at + length (pad size at)
  after_pad = omega (arith, begins, length-replicate {A = ℕ} (gap_to size at) 0)

  padded_byteswaps : Replaces at (pad size at ++ num order size n) (pad size at ++ num (other order) size n) out now
  padded_byteswaps =
      let x = pad size at in
      then_put at x x (num order size n) (num (other order) size n) out out now start after_pad refl (nothing_put at x x out out refl refl) (λ rest h e. number_put order size n start out now rest e byteswapped)

  fronted_byteswaps : (z : List ℕ) → Replaces at (pad size at ++ (num order size n ++ z)) (pad size at ++ (num (other order) size n ++ z)) out now
  fronted_byteswaps z =
      let x = pad size at in
      let y = num order size n in
      let y' = num (other order) size n in
      let q = start + size in
      let len_y : length y ≡ length y' = omega (arith, length-num order size n, length-num (other order) size n) in
      let both = then_put start y y' z z out now now q (omega (arith, length-num order size n)) len_y (λ rest h e. number_put order size n start out now rest e byteswapped) (nothing_put q z z now now refl refl) in
      then_put at x x (y ++ z) (y' ++ z) out out now start after_pad refl (nothing_put at x x out out refl refl) both

  pub number_byteswaps : (k : NumberCode) → width k ≡ size → Replaces at (spelling order at (NumberValue k n)) (spelling (other order) at (NumberValue k n)) out now
  unfolding spelling
  number_byteswaps k wide = rw wide padded_byteswaps

  pub text_byteswaps : (k : TextCode) (t : List ℕ) → n ≡ length t → length_width k ≡ size → Replaces at (spelling order at (TextValue k t)) (spelling (other order) at (TextValue k t)) out now
  unfolding spelling
  text_byteswaps k t is wide = rw (wide, ← is) (fronted_byteswaps (t ++ 0 ∷ []))

pub array_opens : (order : Order) (at start : ℕ) (out now : List ℕ) (t : TypeTree) (xs : ValueTrees) → start ≡ at + gap_to 4 at
    → now ≡ take start out ++ (reverse (take 4 (drop start out)) ++ drop (start + 4) out)
    → Replaces at (front order at (ArrayValue t xs)) (front (other order) at (ArrayValue t xs)) out now
array_opens order at start out now t xs begins byteswapped =
    let z = pad (alignment_of t) (at + gap_to 4 at + 4) in
    let n = length (spellings order (contents_start t at) xs) in
    subst (λ (m : ℕ). Replaces at (pad 4 at ++ (num order 4 n ++ z)) (pad 4 at ++ (num (other order) 4 m ++ z)) out now) (any_lengths order (other order) (contents_start t at) xs)
    (fronted_byteswaps order at 4 start n out now begins byteswapped z)

-- the value that stands there
module _ {order : Order} {depth_left : ℕ} {types : List ℕ} {at : ℕ} {bytes : List ℕ} {v : ValueTree} {rest : List ℕ} (s : Stands order depth_left types at bytes v rest) (start : ℕ) (out now : List ℕ) where
  pub number_there_byteswaps : (size : ℕ) → 0 < size → ((t : TypeTree) → first_code t ≡ get_or types 0 0 → size ≡ number_width t) → start ≡ at + gap_to size at
      → ((k : NumberCode) → width k ≡ size → now ≡ take start out ++ (reverse (take size (drop start out)) ++ drop (start + size) out)) → Replaces at (spelling order at v) (spelling (other order) at v) out now
  number_there_byteswaps size some wide begins byteswapped =
      let p = number_stands s size some wide in
      rw p.is (number_byteswaps order at size start p.n out now begins (byteswapped p.code p.wide) p.code p.wide)

  pub text_there_byteswaps : (get_or types 0 0 ≡ 115) ⊎ (get_or types 0 0 ≡ 111) → start ≡ at + gap_to 4 at → now ≡ take start out ++ (reverse (take 4 (drop start out)) ++ drop (start + 4) out)
      → Replaces at (spelling order at v) (spelling (other order) at v) out now
  text_there_byteswaps code begins byteswapped =
      let p = long_stands s code in
      rw p.is (text_byteswaps order at 4 start (length p.text) out now begins byteswapped p.code p.text refl p.wide)

  pub array_there_opens : get_or types 0 0 ≡ 97 → start ≡ at + gap_to 4 at → now ≡ take start out ++ (reverse (take 4 (drop start out)) ++ drop (start + 4) out) → Replaces at (front order at v) (front (other order) at v) out now
  array_there_opens code begins byteswapped =
      let p = array_stands s code in
      rw p.is (array_opens order at start out now p.type p.xs begins byteswapped)

-- a length of one byte is the same in both orders
pub short_stays : {order : Order} {depth_left : ℕ} {types : List ℕ} {at : ℕ} {bytes : List ℕ} {v : ValueTree} {rest : List ℕ} → Stands order depth_left types at bytes v rest → (out : List ℕ)
    → get_or types 0 0 ≡ 103 → Replaces at (spelling order at v) (spelling (other order) at v) out out
unfolding spelling
short_stays {order = order} {at = at} {v = v} s out code =
    let p = short_stands s code in
    nothing_put at (spelling order at v) (spelling (other order) at v) out out (rw (p.is, p.wide, one_byte order (length p.text)) refl) refl

-- the numbers of an array
module _ {order : Order} {depth_left : ℕ} {types : List ℕ} {at : ℕ} {bytes : List ℕ} {v : ValueTree} {rest : List ℕ} (s : Stands order depth_left types at bytes v rest) where
  pub numbers_byteswap : (p : ArrayStands s) (first end size : ℕ) (half now : List ℕ) → 0 < size → ((t : TypeTree) → first_code t ≡ get_or types 1 0 → size ≡ number_width t) → first ≡ contents_start p.type at → end ≡ first + p.n
      → ((any : Order) (k : NumberCode) (xs : ValueTrees) → width k ≡ size → AllOf (NumberType k) xs → gap_to size first ≡ 0 → end ≡ first + length (spellings any first xs) → Replaces first (spellings any first xs) (spellings (other any) first xs) half now)
      → Replaces (contents_start p.type at) (spellings order (contents_start p.type at) p.xs) (spellings (other order) (contents_start p.type at) p.xs) half now
  numbers_byteswap p first end size half now some wide is_first is_end byteswaps =
      let suffix = at + gap_to 4 at + 4 in
      let k = number_is p.type size some (wide p.type p.code) in
      let begins : first ≡ suffix + gap_to size suffix = is_first ∙ ap (λ (w : ℕ). suffix + gap_to w suffix) (ap alignment_of k.1 ∙ k.2) in
      let aligned : gap_to size first ≡ 0 = ap (gap_to size) begins ∙ comes_aligned size suffix some in
      let ends = is_end ∙ (elements_there s p first p.n is_first refl).ends in
      subst (λ (q : ℕ). Replaces q (spellings order q p.xs) (spellings (other order) q p.xs) half now) is_first (byteswaps order k.0 p.xs k.2 (subst (λ (t : TypeTree). AllOf t p.xs) k.1 p.all) aligned ends)

-- what stands before the parts of another container is the same in both orders
pub opens_so : (what : Container) (order : Order) (at : ℕ) (v : ValueTree) (out : List ℕ) → (what ≡ kind.Array → ⊥) → IsOf what v → Replaces at (front order at v) (front (other order) at v) out out
opens_so what order at (NumberValue k n) out h is_of = nothing_put at [] [] out out refl refl
opens_so what order at (TextValue k t) out h is_of = nothing_put at [] [] out out refl refl
opens_so what order at (VariantValue x) out h is_of =
    let t = sig (type_of x) in
    nothing_put at (ended_text order 1 t) (ended_text (other order) 1 t) out out (ap (λ (l : List ℕ). l ++ (t ++ 0 ∷ [])) (one_byte order (length t))) refl
opens_so what order at (StructValue xs) out h is_of = nothing_put at (pad 8 at) (pad 8 at) out out refl refl
opens_so what order at (EntryValue x y) out h is_of = nothing_put at (pad 8 at) (pad 8 at) out out refl refl
opens_so kind.Array order at (ArrayValue t xs) out h is_of = absurd (h refl)
opens_so kind.Variant order at (ArrayValue t xs) out h is_of = absurd is_of
opens_so kind.Struct order at (ArrayValue t xs) out h is_of = absurd is_of
opens_so kind.Entry order at (ArrayValue t xs) out h is_of = absurd is_of
