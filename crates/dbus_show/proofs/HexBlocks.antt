-- Blocks of sixteen bytes in hexadecimal.
use Rattle.std.proofs.Common.{◌≡◌, ℕ, ◌+◌, ◌/◌, ◌%◌, ◌*◌, ◌^◌, ◌<◌, List, [], ◌∷◌, ◌++◌, map, length, get_or, take, replicate, bit_and, refl, sym, ap, subst, ◌∙◌, arith, w8, Fits}
use Rattle.std.proofs.lemmas.List.{get_or-map, length-map, ext_get_or}
use Rattle.std.proofs.lemmas.Nat.{and_mask}
use Rattle.std.proofs.lemmas.Simd.{Each1-all, Each1-get_or, Each1-from_get_or, Each1-weaker, below_from_Fits, swz_l, SwzOk, SwzOk-from_below, length-swz_l, get_or-swz_l_below, pick_l_whole, zip2_splat}
use lib.Lanes.{zip2, pick_l, Each1}
use Rattle.std.proofs.Math.Seq.{take-append_seam}
use Rattle.hex.proofs.HexLemmas.{length-encode_with}
use Rattle.hex.specs.Hex.{lower_digits, encode_lower, encode_with}
use Rattle.dbus_show.proofs.EscapedText.{encode_append}

-- the four bits of a byte that its first digit stands for, and those that its second one does
abbrev pub high : ℕ → ℕ
high x = x / 2 ^ 4

abbrev pub low : ℕ → ℕ
low x = bit_and x 15

-- a table of sixteen entries, at places below 16
module _ (t : List ℕ) (g : ℕ → ℕ) (xs : List ℕ) (long : length xs ≡ 16) (below : Each1 (λ x. g x < 16) xs) where
  lengthy : length (map g xs) ≡ 16
  lengthy = length-map xs g ∙ long

  at : (i : ℕ) → i < 16 → get_or (map g xs) i 0 ≡ g (get_or xs i 0)
  at i h = get_or-map g xs i 0 0 (omega (arith, long))

  under : (i : ℕ) → i < 16 → get_or (map g xs) i 0 < 16
  under i h = omega (arith, at i h, Each1-get_or (λ x. g x < 16) xs i 0 (omega (arith, long)) below)

  looked_up : swz_l w8 16 t 0 (map g xs) ≡ map (λ x. get_or t (g x) 0) xs
  looked_up =
      ext_get_or 0 _ _ (length-swz_l w8 16 t 0 (map g xs) ∙ (length-map xs g ∙ sym (length-map xs (λ x. get_or t (g x) 0)))) (λ i h.
      let lt : i < 16 = omega (arith, length-swz_l w8 16 t 0 (map g xs), lengthy) in
      let place : 16 * ((0 + i) / 16) + get_or (map g xs) i 0 ≡ g (get_or xs i 0) = omega (arith, at i lt) in
      get_or-swz_l_below w8 16 t 0 (map g xs) i (omega (arith, lengthy)) (under i lt)
      ∙ ap (λ k. get_or t k 0) place ∙ sym (get_or-map (λ x. get_or t (g x) 0) xs i 0 0 (omega (arith, long))))

  pub places_ok : SwzOk w8 16 16 0 (map g xs)
  places_ok = SwzOk-from_below w8 16 1 16 0 (map g xs) refl (omega (arith, lengthy)) (Each1-from_get_or (λ j. j < 16) (map g xs) 0 (λ i h. under i (omega (arith, lengthy))))

-- one from each of two lists of sixteen, in turn
abbrev pub in_turn : List ℕ → List ℕ → List ℕ
in_turn xs ys = pick_l 0 (xs ++ ys)
    (0 ∷ 16 ∷ 1 ∷ 17 ∷ 2 ∷ 18 ∷ 3 ∷ 19 ∷ 4 ∷ 20 ∷ 5 ∷ 21 ∷ 6 ∷ 22 ∷ 7 ∷ 23 ∷ 8 ∷ 24 ∷ 9 ∷ 25 ∷ 10 ∷ 26 ∷ 11 ∷ 27 ∷ 12 ∷ 28 ∷ 13 ∷ 29 ∷ 14 ∷ 30 ∷ 15 ∷ 31 ∷ [])

in_turn_is : (xs : List ℕ) → length xs ≡ 16 → in_turn (map (λ x. get_or lower_digits (x / 16) 0) xs) (map (λ x. get_or lower_digits (x % 16) 0) xs) ≡ encode_lower xs
unfolding encode_with
in_turn_is xs long = subst (λ (l : List ℕ). in_turn (map (λ x. get_or lower_digits (x / 16) 0) l) (map (λ x. get_or lower_digits (x % 16) 0) l) ≡ encode_lower l) (pick_l_whole 0 xs 16 long) refl

module _ (xs : List ℕ) (long : length xs ≡ 16) (bytes : Each1 (Fits w8) xs) where
  highs : zip2 (λ a b. a / 2 ^ b) xs (replicate 16 4) ≡ map (λ x. x / 16) xs
  highs = zip2_splat (λ a b. a / 2 ^ b) xs 16 4 long

  lows : zip2 bit_and xs (replicate 16 15) ≡ map (λ x. x % 16) xs
  lows = zip2_splat bit_and xs 16 15 long ∙ ext_get_or 0 _ _ (length-map xs (λ x. bit_and x 15) ∙ sym (length-map xs (λ x. x % 16))) (λ i h.
      let lt : i < length xs = omega (arith, length-map xs (λ x. bit_and x 15)) in
      get_or-map (λ x. bit_and x 15) xs i 0 0 lt ∙ (and_mask (get_or xs i 0) 4 ∙ sym (get_or-map (λ x. x % 16) xs i 0 0 lt)))

  high_below : Each1 (λ x. x / 16 < 16) xs
  high_below = Each1-weaker (λ x. x < 256) (λ x. x / 16 < 16) (λ x h. omega arith) xs (below_from_Fits w8 xs bytes)

  low_below : Each1 (λ x. x % 16 < 16) xs
  low_below = Each1-all (λ x. x % 16 < 16) (λ x. omega arith) xs

  pub high_ok : SwzOk w8 16 16 0 (zip2 (λ a b. a / 2 ^ b) xs (replicate 16 4))
  high_ok = subst (λ (l : List ℕ). SwzOk w8 16 16 0 l) (sym highs) (places_ok lower_digits (λ x. x / 16) xs long high_below)

  pub low_ok : SwzOk w8 16 16 0 (zip2 bit_and xs (replicate 16 15))
  low_ok = subst (λ (l : List ℕ). SwzOk w8 16 16 0 l) (sym lows) (places_ok lower_digits (λ x. x % 16) xs long low_below)

  pub block_digits : in_turn (swz_l w8 16 lower_digits 0 (zip2 (λ a b. a / 2 ^ b) xs (replicate 16 4))) (swz_l w8 16 lower_digits 0 (zip2 bit_and xs (replicate 16 15))) ≡ encode_lower xs
  block_digits =
      ap (λ (l : List ℕ). in_turn (swz_l w8 16 lower_digits 0 l) (swz_l w8 16 lower_digits 0 (zip2 bit_and xs (replicate 16 15)))) highs
      ∙ (ap (λ (l : List ℕ). in_turn (swz_l w8 16 lower_digits 0 (map (λ x. x / 16) xs)) (swz_l w8 16 lower_digits 0 l)) lows
      ∙ (ap (λ (l : List ℕ). in_turn l (swz_l w8 16 lower_digits 0 (map (λ x. x % 16) xs))) (looked_up lower_digits (λ x. x / 16) xs long high_below)
      ∙ (ap (λ (l : List ℕ). in_turn (map (λ x. get_or lower_digits (x / 16) 0) xs) l) (looked_up lower_digits (λ x. x % 16) xs long low_below)
      ∙ in_turn_is xs long)))

-- the digits of the bytes at the beginning of a block
pub first_digits : (xs those more digits : List ℕ) → those ≡ xs → digits ≡ encode_lower (those ++ more) → take (2 * length xs) digits ≡ encode_lower xs
first_digits xs those more digits same are =
    let apart : digits ≡ encode_lower xs ++ encode_lower more = are ∙ (ap (λ (l : List ℕ). encode_lower (l ++ more)) same ∙ encode_append xs more) in
    ap (take (2 * length xs)) apart ∙ (ap (λ n. take n (encode_lower xs ++ encode_lower more)) (sym (length-encode_with lower_digits xs)) ∙ take-append_seam (encode_lower xs) (encode_lower more))

-- the digits of one byte
pub byte_digits : (x : ℕ) → encode_lower (x ∷ []) ≡ get_or lower_digits (x / 16) 0 ∷ get_or lower_digits (x % 16) 0 ∷ []
unfolding encode_with
byte_digits x = refl
