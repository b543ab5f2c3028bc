-- Two blocks, the second of which stands one byte after the first: each of its bytes may stand
-- after the one before it.
use Rattle.std.proofs.Common.{◌≡◌, ℕ, ◌+◌, ◌-◌, ◌%◌, ◌/◌, ◌^◌, ◌<◌, ◌≤◌, Bool, true, false, not, ◌&&◌, ◌||◌, cond, eqb, List, [], ◌∷◌, ⊎_elim, map, length, drop, get_or, replicate, bit_and, bit_or, refl, sym, ap, ap₂, ◌∙◌, subst, arith, w8, Fits, IsTrue}
use Rattle.std.proofs.lemmas.Bool.{cases_lt, eqb-true}
use Rattle.std.proofs.lemmas.Simd.{length-zip2, get_or-zip2, get_or-chunk, Each1-get_or}
use Rattle.std.proofs.lemmas.List.{length-map, length-drop, get_or-map, get_or-drop}
use lib.Lanes.{zip2, mask_l, top, Each1, chunk}
use Rattle.dbus_texts.proofs.WordBlocks.{less, below, same_as, differs, below_holds, marked_from, top_mark}
use Rattle.dbus_texts.specs.declared.names.Letters.{Letters}
use Rattle.dbus_texts.specs.declared.names.Letters.TheVariants.{Word}
use Rattle.dbus_texts.specs.NameScans.{begins, goes_on, may_follow, extra, first_digits, AreLinked}

abbrev alpha_mark : ℕ → ℕ → ℕ
alpha_mark e b = bit_or (bit_or (below (less (bit_or b 32) 97) 26) (same_as b 95)) (same_as b e)

abbrev within_mark : ℕ → ℕ → ℕ → ℕ
within_mark e k b = bit_or (alpha_mark e b) (below (less b 48) k)

goes_on_mark : (l : Letters) (b : ℕ) → b < 256 → within_mark (extra l) 10 b ≡ cond (goes_on l b) 255 0
goes_on_mark Word b h = eqb-true _ _ (below_holds (λ x. eqb (within_mark 95 10 x) (cond (goes_on Word x) 255 0)) 256 refl b h)
goes_on_mark l b h = eqb-true _ _ (below_holds (λ x. eqb (within_mark (extra l) 10 x) (cond (goes_on l x) 255 0)) 256 refl b h)

begins_mark : (l : Letters) (b : ℕ) → b < 256 → within_mark (extra l) (first_digits l) b ≡ cond (begins l b) 255 0
begins_mark Word b h = eqb-true _ _ (below_holds (λ x. eqb (within_mark 95 10 x) (cond (begins Word x) 255 0)) 256 refl b h)
begins_mark l b h = eqb-true _ _ (below_holds (λ x. eqb (within_mark (extra l) (first_digits l) x) (cond (begins l x) 255 0)) 256 refl b h)

abbrev link_mark : ℕ → ℕ → ℕ → ℕ → ℕ → ℕ
link_mark s e k a b = bit_and (bit_or (within_mark e 10 b) (same_as b s)) (bit_or (differs a s) (within_mark e k b))

or_marks : (p q : Bool) → bit_or (cond p 255 0) (cond q 255 0) ≡ cond (p || q) 255 0
or_marks true true = refl
or_marks true false = refl
or_marks false true = refl
or_marks false false = refl

and_marks : (p q : Bool) → bit_and (cond p 255 0) (cond q 255 0) ≡ cond (p && q) 255 0
and_marks true true = refl
and_marks true false = refl
and_marks false true = refl
and_marks false false = refl

link_mark_is : (s : ℕ) (l : Letters) (a b : ℕ) → b < 256 → top 7 (link_mark s (extra l) (first_digits l) a b) ≡ may_follow s l a b
link_mark_is s l a b h =
    ap (top 7) (ap₂ bit_and
    (ap (λ x. bit_or x (same_as b s)) (goes_on_mark l b h) ∙ or_marks (goes_on l b) (eqb b s))
    (ap (bit_or (differs a s)) (begins_mark l b h) ∙ or_marks (not (eqb a s)) (begins l b))
    ∙ and_marks (goes_on l b || eqb b s) (not (eqb a s) || begins l b))
    ∙ top_mark _

abbrev alphas : ℕ → ℕ → List ℕ → List ℕ
alphas e n ys = zip2 bit_or (zip2 bit_or (zip2 below (zip2 less (zip2 bit_or ys (replicate n 32)) (replicate n 97)) (replicate n 26)) (zip2 same_as ys (replicate n 95))) (zip2 same_as ys (replicate n e))

abbrev withins : ℕ → ℕ → ℕ → List ℕ → List ℕ
withins e k n ys = zip2 bit_or (alphas e n ys) (zip2 below (zip2 less ys (replicate n 48)) (replicate n k))

abbrev link_marks : ℕ → ℕ → ℕ → ℕ → List ℕ → List ℕ → List ℕ
link_marks s e k n xs ys = zip2 bit_and (zip2 bit_or (withins e 10 n ys) (zip2 same_as ys (replicate n s))) (zip2 bit_or (zip2 differs xs (replicate n s)) (withins e k n ys))

links_each : (s e k : ℕ) (xs ys : List ℕ) → length xs ≡ length ys → link_marks s e k (length ys) xs ys ≡ zip2 (link_mark s e k) xs ys
links_each s e k [] [] same = refl
links_each s e k [] (b ∷ ys) same = absurd (omega arith)
links_each s e k (a ∷ xs) [] same = absurd (omega arith)
links_each s e k (a ∷ xs) (b ∷ ys) same = ap (λ r. link_mark s e k a b ∷ r) (links_each s e k xs ys (omega arith))

-- from a lane on each byte of ys may stand after that of xs
abbrev pub Links : ℕ → Letters → ℕ → List ℕ → List ℕ → Type 0
Links s l lane xs ys = (i : ℕ) → lane ≤ i → i < 16 → IsTrue (may_follow s l (get_or xs i 0) (get_or ys i 0))

links_of_marks : (s : ℕ) (l : Letters) (lane : ℕ) (xs ys : List ℕ) → length xs ≡ 16 → length ys ≡ 16 → Each1 (Fits w8) ys → eqb (mask_l (map (top 7) (link_marks s (extra l) (first_digits l) 16 xs ys)) % 2 ^ 64 / 2 ^ lane) (65535 / 2 ^ lane) ≡ true → Links s l lane xs ys
links_of_marks s l lane xs ys first second f e i from to =
    let mark = link_mark s (extra l) (first_digits l) in
    let marks = link_marks s (extra l) (first_digits l) 16 xs ys in
    let beside : length xs ≡ length ys = first ∙ sym second in
    let each : marks ≡ zip2 mark xs ys = subst (λ n. link_marks s (extra l) (first_digits l) n xs ys ≡ zip2 mark xs ys) second (links_each s (extra l) (first_digits l) xs ys beside) in
    let lanes : length marks ≡ 16 = ap length each ∙ (length-zip2 mark xs ys beside ∙ first) in
    let marked : get_or (map (top 7) marks) i false ≡ true = marked_from (map (top 7) marks) lane (length-map marks (top 7) ∙ lanes) e i from to in
    let one : get_or marks i 0 ≡ mark (get_or xs i 0) (get_or ys i 0) = ap (λ (r : List ℕ). get_or r i 0) each ∙ get_or-zip2 mark xs ys i 0 0 0 (omega (arith, first, to)) (omega (arith, second, to)) in
    let byte = Each1-get_or (Fits w8) ys i 0 (omega (arith, second, to)) f in
    sym (link_mark_is s l (get_or xs i 0) (get_or ys i 0) byte.fits) ∙ (sym (get_or-map (top 7) marks i 0 false (omega (arith, lanes, to)) ∙ ap (top 7) one) ∙ marked)

pub links_of_mask : (s : ℕ) (l : Letters) (e k lane : ℕ) (xs ys : List ℕ) → e ≡ extra l → k ≡ first_digits l → length xs ≡ 16 → length ys ≡ 16 → Each1 (Fits w8) ys → eqb (mask_l (map (top 7) (link_marks s e k 16 xs ys)) % 2 ^ 64 / 2 ^ lane) (65535 / 2 ^ lane) ≡ true → Links s l lane xs ys
links_of_mask s l e k lane xs ys p q first second f h =
    links_of_marks s l lane xs ys first second f (rw (p, q) at h)

-- from blocks to the bytes: from start up to a place each byte is followed by one that may stand there
abbrev pub LinkedTo : ℕ → Letters → List ℕ → ℕ → ℕ → Type 0
LinkedTo s l xs start to = (i : ℕ) → start ≤ i → i < to → IsTrue (may_follow s l (get_or xs i 0) (get_or xs (i + 1) 0))

links_more : (s : ℕ) (l : Letters) (xs : List ℕ) (start at block next : ℕ) → next ≡ block + 1 → block ≤ at → LinkedTo s l xs start at → Links s l (at - block) (chunk block 16 xs) (chunk next 16 xs) → LinkedTo s l xs start (block + 16)
links_more s l xs start at block next n le before h i from to = ⊎_elim (λ k. before i from k) (λ k. after k) (cases_lt i at)
  where
    after : at ≤ i → IsTrue (may_follow s l (get_or xs i 0) (get_or xs (i + 1) 0))
    after k =
        let place : block + (i - block) ≡ i = omega arith in
        let beside : next + (i - block) ≡ i + 1 = omega arith in
        let within : i - block < 16 = omega arith in
        let one = h (i - block) (omega arith) within in
        subst (λ b. IsTrue (may_follow s l (get_or xs i 0) b)) (get_or-chunk next 16 xs (i - block) 0 within ∙ ap (λ j. get_or xs j 0) beside)
        (subst (λ a. IsTrue (may_follow s l a (get_or (chunk next 16 xs) (i - block) 0))) (get_or-chunk block 16 xs (i - block) 0 within ∙ ap (λ j. get_or xs j 0) place) one)

pub links_turn : (s : ℕ) (l : Letters) (xs : List ℕ) (start at : ℕ) → LinkedTo s l xs start at → Links s l 0 (chunk at 16 xs) (chunk (at + 1) 16 xs) → LinkedTo s l xs start (at + 16)
links_turn s l xs start at before h = links_more s l xs start at at (at + 1) refl (omega arith) before (λ i from to. h i (omega arith) to)

pub links_last : (s : ℕ) (l : Letters) (xs : List ℕ) (start at last : ℕ) → length xs ≡ last + 17 → last ≤ at → LinkedTo s l xs start at → Links s l (at - last) (chunk last 16 xs) (chunk (last + 1) 16 xs) → AreLinked s l (drop start xs)
links_last s l xs start at last long le before h j m =
    let beside : start + (j + 1) ≡ start + j + 1 = omega arith in
    subst (λ b. IsTrue (may_follow s l (get_or (drop start xs) j 0) b)) (sym (get_or-drop start xs (j + 1) 0 ∙ ap (λ k. get_or xs k 0) beside))
    (subst (λ a. IsTrue (may_follow s l a (get_or xs (start + j + 1) 0))) (sym (get_or-drop start xs j 0))
    (links_more s l xs start at last (last + 1) refl le before h (start + j) (omega arith) (omega (arith, m, length-drop start xs, long))))
