-- Lanes of eight bits: what the operations give in one lane, and masks in which each lane is
-- marked.
use Rattle.std.proofs.Common.{◌≡◌, ℕ, zero, suc, ◌+◌, ◌-◌, ◌*◌, ◌/◌, ◌%◌, ◌^◌, ◌<◌, ◌≤◌, Bool, true, false, not, ◌&&◌, cond, eqb, ltb, List, [], ◌∷◌, ⊎_elim, length, get_or, refl, sym, ap, ◌∙◌, subst, arith, div-mul-le_self, drop, leb, ◌++◌, map, replicate, w8, Fits, eqb-true}
use Rattle.std.proofs.lemmas.Bool.{and_parts, cases_lt}
use Rattle.std.proofs.lemmas.Simd.{mask_l-lt, mask_l-mod, length-zip2}
use Rattle.std.proofs.Math.Nat.{lt-div-mul-add}
use Rattle.std.specs.List.{AllByRecursion}
use Rattle.std.specs.Int.{IsInRange}
use Rattle.std.proofs.lemmas.Bool.Decides.{nat_tests}
use Rattle.std.proofs.lemmas.List.{length-map, length-replicate}
use native.Mathlib.Numerals.{unary_clauses}
use lib.Lanes.{mask_l, top, zip2, Each1}

-- the lanes of the operations
abbrev pub less : ℕ → ℕ → ℕ
less a b = (a + (2 ^ 8 - b)) % 2 ^ 8

abbrev pub below : ℕ → ℕ → ℕ
below a b = cond (ltb a b) 255 0

abbrev pub same_as : ℕ → ℕ → ℕ
same_as a b = cond (eqb a b) 255 0

abbrev pub differs : ℕ → ℕ → ℕ
differs a b = cond (not (eqb a b)) 255 0

-- what holds at each byte is found by trying each
abbrev pub holds_below : (ℕ → Bool) → ℕ → Bool
holds_below p zero = true
holds_below p (suc n) = p n && holds_below p n

pub below_holds : (p : ℕ → Bool) (n : ℕ) → holds_below p n ≡ true → (i : ℕ) → i < n → p i ≡ true
below_holds p zero h i l = absurd (omega arith)
below_holds p (suc n) h i l =
    let both = and_parts (p n) (holds_below p n) h in
    ⊎_elim (λ k. below_holds p n both.1 i k) (λ k. let same : i ≡ n = omega arith in subst (λ j. p j ≡ true) (sym same) both.0) (cases_lt i n)

-- the mark of a lane is its top bit
pub top_mark : (p : Bool) → top 7 (cond p 255 0) ≡ p
top_mark true = refl
top_mark false = refl

pub pow_two : (n : ℕ) → 2 ^ suc n ≡ 2 * 2 ^ n
pow_two n = simp unary_clauses (omega arith)

pub two_positive : (n : ℕ) → 0 < 2 ^ n
two_positive zero = omega arith
two_positive (suc n) = omega (arith, pow_two n, two_positive n)

-- a mask that is at most 2 ^ k - 1 below that of ones only: each lane from k on is marked
at_most_one : (b : Bool) → cond b 1 0 ≤ 1
at_most_one true = omega arith
at_most_one false = omega arith

is_set : (b : Bool) → 0 < cond b 1 0 → b ≡ true
is_set true h = refl
is_set false h = absurd (omega arith)

marked_at : (ms : List Bool) (k i : ℕ) → 2 ^ length ms ≤ mask_l ms + 2 ^ k → k ≤ i → i < length ms → get_or ms i false ≡ true
marked_at [] k i h from to = absurd (omega arith)
marked_at (m ∷ ms) zero zero h from to = is_set m (omega (arith, pow_two (length ms), mask_l-lt ms))
marked_at (m ∷ ms) zero (suc i) h from to = marked_at ms zero i (omega (arith, pow_two (length ms), at_most_one m)) (omega arith) (omega arith)
marked_at (m ∷ ms) (suc k) zero h from to = absurd (omega arith)
marked_at (m ∷ ms) (suc k) (suc i) h from to = marked_at ms k i (omega (arith, pow_two (length ms), pow_two k, at_most_one m)) (omega arith) (omega arith)

-- where the masks have the same lanes from k on
near : (whole part p : ℕ) → 65535 < part + p → part ≤ whole → 2 ^ 16 ≤ whole + p
near whole part p h k = omega arith

pub marked_from : (ms : List Bool) (k : ℕ) → length ms ≡ 16 → eqb (mask_l ms % 2 ^ 64 / 2 ^ k) (65535 / 2 ^ k) ≡ true → (i : ℕ) → k ≤ i → i < 16 → get_or ms i false ≡ true
marked_from ms k long e i from to =
    let mask = mask_l ms in
    let small : mask % 2 ^ 64 ≡ mask = mask_l-mod ms 64 (omega (arith, long)) in
    let same : 65535 / 2 ^ k ≡ mask / 2 ^ k = sym (eqb-true _ _ e) ∙ ap (λ (m : ℕ). m / 2 ^ k) small in
    let ones : 65535 < 65535 / 2 ^ k * 2 ^ k + 2 ^ k = lt-div-mul-add (two_positive k) in
    let above : 65535 < mask / 2 ^ k * 2 ^ k + 2 ^ k = subst (λ (d : ℕ). 65535 < d * 2 ^ k + 2 ^ k) same ones in
    let most : 2 ^ 16 ≤ mask + 2 ^ k = near mask (mask / 2 ^ k * 2 ^ k) (2 ^ k) above (div-mul-le_self mask (2 ^ k)) in
    marked_at ms k i (subst (λ (n : ℕ). 2 ^ n ≤ mask + 2 ^ k) (sym long) most) from (omega (arith, long, to))

-- Blocks in which each byte is from 1 to 127.

abbrev pub at_least : ℕ → ℕ → ℕ
at_least a b = cond (leb a b) 255 0

abbrev pub marks : ℕ → List ℕ → List ℕ
marks n xs = zip2 at_least (replicate n 127) (zip2 less xs (replicate n 1))

plain_lane : (x : ℕ) → x < 256 → top 7 (at_least 127 (less x 1)) ≡ false → IsInRange 1 127 x
plain_lane x f e = grind (arith, nat_tests)

-- where no lane from k on is marked, each byte from k on is from 1 to 127
pub none_marked : (k : ℕ) (xs : List ℕ) → Each1 (Fits w8) xs → mask_l (map (top 7) (marks (length xs) xs)) < 2 ^ k → AllByRecursion (IsInRange 1 127) (drop k xs)
none_marked zero [] f h = tt
none_marked (suc k) [] f h = tt
none_marked zero (x ∷ xs) f h = (plain_lane x f.0.fits (unmarked (top 7 (at_least 127 (less x 1))) (omega arith)), none_marked zero xs f.1 (omega arith))
  where
    unmarked : (t : Bool) → cond t 1 0 < 1 → t ≡ false
    unmarked true l = absurd (omega arith)
    unmarked false l = refl
none_marked (suc k) (x ∷ xs) f h = none_marked k xs f.1 (omega (arith, pow_two k))

pub plain_from : (lanes lane : ℕ) (xs : List ℕ) → lanes ≤ 64 → length xs ≡ lanes → Each1 (Fits w8) xs → eqb (mask_l (map (top 7) (marks lanes xs)) % 2 ^ 64 / 2 ^ lane) 0 ≡ true → AllByRecursion (IsInRange 1 127) (drop lane xs)
plain_from lanes lane xs few long f e =
    let inner : length (zip2 less xs (replicate lanes 1)) ≡ lanes = length-zip2 less xs (replicate lanes 1) (long ∙ sym (length-replicate {A = ℕ} lanes 1)) ∙ long in
    let outer : length (marks lanes xs) ≡ lanes = length-zip2 at_least (replicate lanes 127) (zip2 less xs (replicate lanes 1)) (length-replicate {A = ℕ} lanes 127 ∙ sym inner) ∙ length-replicate {A = ℕ} lanes 127 in
    let mask = mask_l (map (top 7) (marks lanes xs)) in
    let small : mask % 2 ^ 64 ≡ mask = mask_l-mod _ 64 (omega (arith, length-map (marks lanes xs) (top 7), outer, few)) in
    let none : mask / 2 ^ lane ≡ 0 = ap (λ m. m / 2 ^ lane) (sym small) ∙ eqb-true _ _ e in
    let near : mask < mask / 2 ^ lane * 2 ^ lane + 2 ^ lane = lt-div-mul-add (two_positive lane) in
    let below : mask < 2 ^ lane = omega (arith, subst (λ q. mask < q * 2 ^ lane + 2 ^ lane) none near) in
    none_marked lane xs f (subst (λ n. mask_l (map (top 7) (marks n xs)) < 2 ^ lane) (sym long) below)

pub plain_of_mask : (lanes : ℕ) (xs : List ℕ) → lanes ≤ 64 → length xs ≡ lanes → Each1 (Fits w8) xs → eqb (mask_l (map (top 7) (marks lanes xs)) % 2 ^ 64) 0 ≡ true → AllByRecursion (IsInRange 1 127) xs
plain_of_mask lanes xs few long f e =
    let mask = mask_l (map (top 7) (marks lanes xs)) % 2 ^ 64 in
    let whole : mask ≡ mask / 2 ^ 0 = omega arith in
    plain_from lanes 0 xs few long f (ap (λ m. eqb m 0) (sym whole) ∙ e)

pub plain_append : (xs ys : List ℕ) → AllByRecursion (IsInRange 1 127) xs → AllByRecursion (IsInRange 1 127) ys → AllByRecursion (IsInRange 1 127) (xs ++ ys)
plain_append [] ys h k = k
plain_append (x ∷ xs) ys h k = (h.0, plain_append xs ys h.1 k)
