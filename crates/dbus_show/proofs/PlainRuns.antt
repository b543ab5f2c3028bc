-- The first byte of a text at which a run ends, found by blocks.
use Rattle.std.proofs.Common.{◌≡◌, ℕ, zero, suc, ◌+◌, ◌%◌, ◌^◌, ◌<◌, ◌≤◌, Bool, true, false, cond, eqb, ltb, ◌||◌, List, [], ◌∷◌, map, length, replicate, take, drop, bit_or, refl, sym, ap, subst, ◌∙◌, arith}
use Rattle.std.proofs.lemmas.Bool.Decides.{nat_tests}
use Rattle.std.proofs.lemmas.List.{length-map, take-append-drop, take_rest}
use Rattle.std.proofs.lemmas.List.Sums.{prefix_len-le-length}
use Rattle.std.proofs.lemmas.List.Folds.{prefix_len-append}
use Rattle.std.proofs.lemmas.Simd.{length-chunk, mask_l-mod}
use lib.Lanes.{zip2, mask_l, top}
use Rattle.std.specs.List.{prefix_len}
use Rattle.dbus_texts.proofs.WordBlocks.{below, same_as, top_mark}
use Rattle.dbus_show.specs.PlainFronts.{is_beyond, is_stop}
use Rattle.dbus_show.specs.declared.runs.Beyond.TheVariants.{Each, Leads}

-- ---- a block

either : (a b : Bool) → bit_or (cond a 255 0) (cond b 255 0) ≡ cond (a || b) 255 0
either true true = refl
either true false = refl
either false true = refl
either false false = refl

-- the lanes of a byte that is a mark, and of the first byte of a hidden character
abbrev mark_lane : ℕ → ℕ
mark_lane b = bit_or (bit_or (same_as b 34) (same_as b 92)) (same_as b 127)

abbrev lead_lane : ℕ → ℕ
lead_lane b = bit_or (bit_or (bit_or (bit_or (bit_or (same_as b 0xC2) (same_as b 0xD8)) (same_as b 0xE1)) (same_as b 0xE2)) (same_as b 0xEF)) (same_as b 0xF3)

more : {a : ℕ} (p q : Bool) → a ≡ cond p 255 0 → bit_or a (cond q 255 0) ≡ cond (p || q) 255 0
more p q e = ap (λ m. bit_or m (cond q 255 0)) e ∙ either p q

both : {a c : ℕ} (p q : Bool) → a ≡ cond p 255 0 → c ≡ cond q 255 0 → bit_or a c ≡ cond (p || q) 255 0
both {a} p q e f = ap (bit_or a) f ∙ more p q e

abbrev is_mark : ℕ → Bool
is_mark b = eqb b 34 || eqb b 92 || eqb b 127

mark_is : (b : ℕ) → mark_lane b ≡ cond (is_mark b) 255 0
mark_is b = more (eqb b 34 || eqb b 92) (eqb b 127) (either (eqb b 34) (eqb b 92))

lead_is : (b : ℕ) → lead_lane b ≡ cond (is_beyond Leads b) 255 0
lead_is b =
    more (eqb b 0xC2 || eqb b 0xD8 || eqb b 0xE1 || eqb b 0xE2 || eqb b 0xEF) (eqb b 0xF3)
    (more (eqb b 0xC2 || eqb b 0xD8 || eqb b 0xE1 || eqb b 0xE2) (eqb b 0xEF)
    (more (eqb b 0xC2 || eqb b 0xD8 || eqb b 0xE1) (eqb b 0xE2) (more (eqb b 0xC2 || eqb b 0xD8) (eqb b 0xE1) (either (eqb b 0xC2) (eqb b 0xD8)))))

-- the lanes of a block
abbrev mark_lanes : ℕ → List ℕ → List ℕ
mark_lanes n xs = zip2 bit_or (zip2 bit_or (zip2 same_as xs (replicate n 34)) (zip2 same_as xs (replicate n 92))) (zip2 same_as xs (replicate n 127))

abbrev lead_lanes : ℕ → List ℕ → List ℕ
lead_lanes n xs =
    zip2 bit_or (zip2 bit_or (zip2 bit_or (zip2 bit_or (zip2 bit_or (zip2 same_as xs (replicate n 0xC2)) (zip2 same_as xs (replicate n 0xD8))) (zip2 same_as xs (replicate n 0xE1)))
    (zip2 same_as xs (replicate n 0xE2))) (zip2 same_as xs (replicate n 0xEF))) (zip2 same_as xs (replicate n 0xF3))

abbrev pub each_lanes : ℕ → List ℕ → List ℕ
each_lanes n xs = zip2 bit_or (zip2 bit_or (zip2 below xs (replicate n 32)) (zip2 below (replicate n 127) xs)) (mark_lanes n xs)

abbrev pub stop_lanes : ℕ → List ℕ → List ℕ
stop_lanes n xs = zip2 bit_or (zip2 bit_or (zip2 below xs (replicate n 32)) (lead_lanes n xs)) (mark_lanes n xs)

each_is : (b : ℕ) → bit_or (bit_or (below b 32) (below 127 b)) (mark_lane b) ≡ cond (is_stop Each b) 255 0
each_is b = both (ltb b 32 || ltb 127 b) (is_mark b) (either (ltb b 32) (ltb 127 b)) (mark_is b)

stop_is : (b : ℕ) → bit_or (bit_or (below b 32) (lead_lane b)) (mark_lane b) ≡ cond (is_stop Leads b) 255 0
stop_is b = both (ltb b 32 || is_beyond Leads b) (is_mark b) (both (ltb b 32) (is_beyond Leads b) refl (lead_is b)) (mark_is b)

each_tops : (xs : List ℕ) → map (top 7) (each_lanes (length xs) xs) ≡ map (is_stop Each) xs
each_tops [] = refl
each_tops (x ∷ xs) = ap (λ b. b ∷ map (top 7) (each_lanes (length xs) xs)) (ap (top 7) (each_is x) ∙ top_mark (is_stop Each x)) ∙ ap (λ r. is_stop Each x ∷ r) (each_tops xs)

lead_tops : (xs : List ℕ) → map (top 7) (stop_lanes (length xs) xs) ≡ map (is_stop Leads) xs
lead_tops [] = refl
lead_tops (x ∷ xs) = ap (λ b. b ∷ map (top 7) (stop_lanes (length xs) xs)) (ap (top 7) (stop_is x) ∙ top_mark (is_stop Leads x)) ∙ ap (λ r. is_stop Leads x ∷ r) (lead_tops xs)

-- the mask of the lanes at which a run ends
mask_of : (lanes : ℕ → List ℕ → List ℕ) (p : ℕ → Bool) → ((xs : List ℕ) → map (top 7) (lanes (length xs) xs) ≡ map p xs) → (xs : List ℕ) (n : ℕ) → n ≤ 64 → length xs ≡ n
    → mask_l (map (top 7) (lanes n xs)) % 2 ^ 64 ≡ mask_l (map p xs)
mask_of lanes p tops xs n few long =
    let each : map (top 7) (lanes n xs) ≡ map p xs = subst (λ k. map (top 7) (lanes k xs) ≡ map p xs) long (tops xs) in
    let fits : length (map p xs) ≤ 64 = omega (arith, length-map xs p, long, few) in
    ap (λ ms. mask_l ms % 2 ^ 64) each ∙ mask_l-mod (map p xs) 64 fits

pub each_mask : (xs : List ℕ) (n : ℕ) → n ≤ 64 → length xs ≡ n → mask_l (map (top 7) (each_lanes n xs)) % 2 ^ 64 ≡ mask_l (map (is_stop Each) xs)
each_mask xs n few long = mask_of each_lanes (is_stop Each) each_tops xs n few long

pub lead_mask : (xs : List ℕ) (n : ℕ) → n ≤ 64 → length xs ≡ n → mask_l (map (top 7) (stop_lanes n xs)) % 2 ^ 64 ≡ mask_l (map (is_stop Leads) xs)
lead_mask xs n few long = mask_of stop_lanes (is_stop Leads) lead_tops xs n few long

-- ---- blocks

not_all : (m n a : ℕ) → m < n → cond (eqb m n) a m ≡ m
not_all m n a l = grind (arith, nat_tests)

all : (m n a : ℕ) → m ≡ n → cond (eqb m n) a m ≡ a
all m n a e = grind (arith, nat_tests)

first_passes : (passes : Bool) (n i m : ℕ) → suc i ≤ cond passes (1 + n) 0 → (i ≤ n → n ≡ i + m) → cond passes (1 + n) 0 ≡ suc i + m
first_passes true n i m h f = let e = f (omega (arith, h)) in omega (arith, e)
first_passes false n i m h f = absurd (omega (arith, h))

-- the bytes before the first one that does not pass
module _ (p : ℕ → Bool) where
  -- from a place on before which each byte passes
  from_within : (xs : List ℕ) (i : ℕ) → i ≤ prefix_len p xs → prefix_len p xs ≡ i + prefix_len p (drop i xs)
  from_within xs zero h = omega arith
  from_within [] (suc i) h = absurd (omega (arith, h))
  from_within (x ∷ xs) (suc i) h = first_passes (p x) (prefix_len p xs) i (prefix_len p (drop i xs)) h (from_within xs i)

  module _ (xs : List ℕ) (at n : ℕ) (within : at ≤ prefix_len p xs) (room : at + n ≤ length xs) where
    abbrev block : List ℕ
    block = take n (drop at xs)

    pub long : length block ≡ n
    long = length-chunk at n xs room

    rest : prefix_len p xs ≡ at + cond (eqb (prefix_len p block) (length block)) (length block + prefix_len p (drop n (drop at xs))) (prefix_len p block)
    rest = from_within xs at within ∙ ap (λ (l : List ℕ). at + prefix_len p l) (sym (take-append-drop n (drop at xs))) ∙ ap (λ k. at + k) (prefix_len-append p block (drop n (drop at xs)))

    -- one of the block does not pass
    pub found_in_block : prefix_len p block < n → prefix_len p xs ≡ at + prefix_len p block
    found_in_block l = rest ∙ ap (λ k. at + k) (not_all (prefix_len p block) (length block) _ (omega (arith, l, long)))

    -- each passes
    pub none_in_block : n ≤ prefix_len p block → at + n ≤ prefix_len p xs
    none_in_block l =
        let few = prefix_len-le-length p block in
        let on = all (prefix_len p block) (length block) (length block + prefix_len p (drop n (drop at xs))) (omega (arith, l, few, long)) in
        omega (arith, rest, long, on)

  -- the last block
  pub last_block : (xs : List ℕ) (at n : ℕ) → at ≤ prefix_len p xs → at + n ≡ length xs → prefix_len p xs ≡ at + prefix_len p (take n (drop at xs))
  last_block xs at n within e =
      let whole : take n (drop at xs) ≡ drop at xs = ap (λ k. take k (drop at xs)) (omega (arith, e)) ∙ take_rest xs at in
      from_within xs at within ∙ ap (λ (l : List ℕ). at + prefix_len p l) (sym whole)
