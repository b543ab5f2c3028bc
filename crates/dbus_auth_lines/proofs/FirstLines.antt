-- Any bytes begin in exactly one way, and the scan finds it.
use Rattle.std.proofs.Common.{◌≡◌, ◌≢◌, ◌⊎◌, inl, inr, ℕ, ◌+◌, ◌==◌, nat_lt, Bool, true, false, List, [], ◌∷◌, ◌++◌, length, take, refl, sym, ◌∙◌, ap, subst, arith, lit≤, append_assoc, length-append}
use Rattle.std.proofs.lemmas.Bool.{and_right, ne_eqb, eqb-false, eqb-true}
use Rattle.std.proofs.lemmas.Bool.Decides.{nat_tests}
use Rattle.std.proofs.lemmas.List.{append-nil, take_at}
use Rattle.std.specs.List.{AllByRecursion}
use Rattle.dbus_auth_lines.specs.Lines.{ended}
use Rattle.dbus_auth_lines.specs.Cut.{TooLong, BadByte, Ends, Bad, More, passes_limit, is_bad, scan_from, cut, IsPlain, IsLine, Beginning, WholeLine, Faulty, Unfinished, IsUnfinished, within_line, cr_last, IsStray, IsTooLong, long_line, long_past_cr, IsBadByte, stray, no_lf, BeginsAs, cut_of}
use Rattle.dbus_auth_lines.proofs.Scans.{scan_step, scan_none, stays_within, cut_over, cut_over_cr, cut_line}

-- ---- the scan finds how bytes begin

passes_here : (b : ℕ) → b ≢ 13 → passes_limit 16382 false b ≡ true
passes_here b h = let e : (b == 13) ≡ false = ne_eqb b 13 h in rw (e, and_right (b == 10) false refl) refl

passes_after_cr : (b : ℕ) → b ≢ 10 → b ≢ 13 → passes_limit 16382 true b ≡ true
passes_after_cr b h k = let e : (b == 13) ≡ false = ne_eqb b 13 k in let f : (b == 10) ≡ false = ne_eqb b 10 h in rw (e, f) refl

stray_is_bad : (b : ℕ) → IsStray b → is_bad false b ≡ true
stray_is_bad b (inl h) = let e = h in grind (arith, nat_tests)
stray_is_bad b (inr (inl h)) = let e = h in grind (arith, nat_tests)
stray_is_bad b (inr (inr h)) = let e = h in grind (arith, nat_tests)

no_lf_is_bad : (b : ℕ) → b ≢ 10 → is_bad true b ≡ true
no_lf_is_bad b h = let e = h in grind (arith, nat_tests)

-- after CR, CR is within the limit
cr_within : (at b : ℕ) → (at ≡ 16382 → b ≡ 13) → passes_limit at true b ≡ false
cr_within at b h = by_place (at == 16382) refl
  where
    by_place : (t : Bool) → (at == 16382) ≡ t → passes_limit at true b ≡ false
    by_place false e = rw e refl
    by_place true e = let f : (b == 13) ≡ true = ap (λ n. n == 13) (h (eqb-true at 16382 e)) in rw (e, f) refl

too_long_cut : (k : List ℕ) → IsTooLong k → cut k ≡ Bad TooLong
too_long_cut k (long_line line b more h n ne e) =
    ap cut e ∙ cut_over line (b ∷ more) h ∙ ap (λ m. scan_from m false (b ∷ more)) n
    ∙ scan_step 16382 false b more true (is_bad false b) false (passes_here b ne) refl refl
too_long_cut k (long_past_cr line b more h n ne nf e) =
    let m : length line + 1 ≡ 16382 = omega arith in
    ap cut e ∙ cut_over_cr line (b ∷ more) h ∙ ap (λ m. scan_from m true (b ∷ more)) m
    ∙ scan_step 16382 true b more true (is_bad true b) true (passes_after_cr b ne nf) refl refl

bad_byte_cut : (k : List ℕ) (at : ℕ) → IsBadByte k at → cut k ≡ Bad (BadByte at)
bad_byte_cut k at (stray line b more h n lt s e) =
    ap cut e ∙ cut_over line (b ∷ more) h ∙ ap (λ m. scan_from m false (b ∷ more)) (sym n)
    ∙ scan_step at false b more false true false (stays_within at false b (λ i. omega arith)) (stray_is_bad b s) refl
bad_byte_cut k at (no_lf line b more h n ne w e) =
    ap cut e ∙ cut_over_cr line (b ∷ more) h ∙ ap (λ m. scan_from m true (b ∷ more)) (sym n)
    ∙ scan_step at true b more false true true (cr_within at b w) (no_lf_is_bad b ne) refl

unfinished_cut : (k : List ℕ) → IsUnfinished k → cut k ≡ More
unfinished_cut k (within_line h) = ap cut (sym (append-nil k)) ∙ cut_over k [] h ∙ scan_none (length k) false
unfinished_cut k (cr_last line h e) = ap cut e ∙ cut_over_cr line [] h ∙ scan_none (length line + 1) true

pub cut_finds : (k : List ℕ) (b : Beginning) → BeginsAs k b → cut k ≡ cut_of b
cut_finds k (WholeLine line) h = ap cut h.1.1 ∙ cut_line line h.1.0 h.0
cut_finds k (Faulty TooLong) h = too_long_cut k h
cut_finds k (Faulty (BadByte at)) h = bad_byte_cut k at h
cut_finds k Unfinished h = unfinished_cut k h

-- ---- no bytes begin in two ways

same_line : (k : List ℕ) (line other : List ℕ) → BeginsAs k (WholeLine line) → BeginsAs k (WholeLine other) → length line ≡ length other → line ≡ other
same_line k line other h i n =
    let front : (l : List ℕ) → BeginsAs k (WholeLine l) → take (length l) k ≡ l = λ l g. ap (take (length l)) (g.1.1 ∙ append_assoc l (13 ∷ 10 ∷ []) g.1.0) ∙ take_at l (13 ∷ 10 ∷ g.1.0) (length l) refl in
    sym (front line h) ∙ ap (λ m. take m k) n ∙ front other i

same_by : (k : List ℕ) (a b : Beginning) → BeginsAs k a → BeginsAs k b → cut_of a ≡ cut_of b → a ≡ b
same_by k (WholeLine line) (WholeLine other) h i e = ap WholeLine (same_line k line other h i (let f : length line + 2 ≡ length other + 2 = cc in omega arith))
same_by k (Faulty f) (Faulty g) h i e = let same : f ≡ g = cc in ap Faulty same
same_by k Unfinished Unfinished h i e = refl
same_by k (WholeLine line) (Faulty g) h i e = absurd (let x : Ends (length line + 2) ≡ Bad g = e in cc)
same_by k (WholeLine line) Unfinished h i e = absurd (let x : Ends (length line + 2) ≡ More = e in cc)
same_by k (Faulty f) (WholeLine line) h i e = absurd (let x : Bad f ≡ Ends (length line + 2) = e in cc)
same_by k (Faulty f) Unfinished h i e = absurd (let x : Bad f ≡ More = e in cc)
same_by k Unfinished (WholeLine line) h i e = absurd (let x : More ≡ Ends (length line + 2) = e in cc)
same_by k Unfinished (Faulty f) h i e = absurd (let x : More ≡ Bad f = e in cc)

pub one_beginning : (k : List ℕ) (a b : Beginning) → BeginsAs k a → BeginsAs k b → a ≡ b
one_beginning k a b h i = same_by k a b h i (sym (cut_finds k a h) ∙ cut_finds k b i)

-- ---- any bytes begin in some way

abbrev pub HasBeginning : List ℕ → Type 0
HasBeginning k = (b : Beginning) × BeginsAs k b

one_more : (line : List ℕ) (b : ℕ) → IsLine line → length line ≢ 16382 → IsPlain b → IsLine (line ++ b ∷ [])
one_more line b h ne p = record {
  plain = plain_end line h.plain;
  short = omega (arith, length-append line (b ∷ []), h.short, ne);
}
  where
    plain_end : (xs : List ℕ) → AllByRecursion IsPlain xs → AllByRecursion IsPlain (xs ++ b ∷ [])
    plain_end [] g = (p, tt)
    plain_end (x ∷ xs) g = (g.0, plain_end xs g.1)

-- a byte is stray, CR or plain
stray_or_plain : (b : ℕ) → b ≢ 13 → IsStray b ⊎ IsPlain b
stray_or_plain b cr = by_tests (b == 0) refl (nat_lt 127 b) refl (b == 10) refl
  where
    by_tests : (p : Bool) → (b == 0) ≡ p → (q : Bool) → nat_lt 127 b ≡ q → (r : Bool) → (b == 10) ≡ r → IsStray b ⊎ IsPlain b
    by_tests true e q f r g = inl (inl (eqb-true b 0 e))
    by_tests false e true f r g = inl (inr (inl (let x = f in grind (arith, nat_tests))))
    by_tests false e false f true g = inl (inr (inr (eqb-true b 10 g)))
    by_tests false e false f false g = inr (record {
      not_nul = let ne = eqb-false b 0 e in omega arith;
      ascii = let x = f in grind (arith, nat_tests);
      not_lf = eqb-false b 10 g;
      not_cr = cr;
    })

after_cr_by : (line : List ℕ) (rest : List ℕ) → IsLine line → HasBeginning (line ++ 13 ∷ rest)
after_cr_by line [] h = (Unfinished, cr_last line h refl)
after_cr_by line (b ∷ bs) h = by_lf (b == 10) refl
  where
    by_cr : b ≢ 10 → (t : Bool) → (length line == 16381) ≡ t → (u : Bool) → (b == 13) ≡ u → HasBeginning (line ++ 13 ∷ b ∷ bs)
    by_cr ne true e false f = (Faulty TooLong, long_past_cr line b bs h (eqb-true (length line) 16381 e) ne (eqb-false b 13 f) refl)
    by_cr ne true e true f = (Faulty (BadByte (length line + 1)), no_lf line b bs h refl ne (λ i. eqb-true b 13 f) refl)
    by_cr ne false e u f = (Faulty (BadByte (length line + 1)), no_lf line b bs h refl ne (λ i. absurd (let n = eqb-false (length line) 16381 e in omega arith)) refl)

    by_lf : (t : Bool) → (b == 10) ≡ t → HasBeginning (line ++ 13 ∷ b ∷ bs)
    by_lf true e = (WholeLine line, (h, (bs, ap (λ c. line ++ 13 ∷ c ∷ bs) (eqb-true b 10 e) ∙ sym (append_assoc line (13 ∷ 10 ∷ []) bs))))
    by_lf false e = by_cr (eqb-false b 10 e) (length line == 16381) refl (b == 13) refl

-- by the byte after a line's bytes, where the rest is known
next_byte : (line : List ℕ) (b : ℕ) (bs : List ℕ) → IsLine line → (IsLine (line ++ b ∷ []) → HasBeginning (line ++ b ∷ bs)) → HasBeginning (line ++ b ∷ bs)
next_byte line b bs h again = by_cr (b == 13) refl
  where
    by_kind : b ≢ 13 → length line ≢ 16382 → IsStray b ⊎ IsPlain b → HasBeginning (line ++ b ∷ bs)
    by_kind cr ne (inl s) = (Faulty (BadByte (length line)), stray line b bs h refl (omega (arith, h.short, ne)) s refl)
    by_kind cr ne (inr p) = again (one_more line b h ne p)

    by_place : b ≢ 13 → (t : Bool) → (length line == 16382) ≡ t → HasBeginning (line ++ b ∷ bs)
    by_place cr true e = (Faulty TooLong, long_line line b bs h (eqb-true (length line) 16382 e) cr refl)
    by_place cr false e = by_kind cr (eqb-false (length line) 16382 e) (stray_or_plain b cr)

    by_cr : (t : Bool) → (b == 13) ≡ t → HasBeginning (line ++ b ∷ bs)
    by_cr true e = let P : ℕ → Type 0 = λ c. HasBeginning (line ++ c ∷ bs) in subst P (sym (eqb-true b 13 e)) (after_cr_by line bs h)
    by_cr false e = by_place (eqb-false b 13 e) (length line == 16382) refl

begins_from : (rest line : List ℕ) → IsLine line → HasBeginning (line ++ rest)
begins_from [] line h = let P : List ℕ → Type 0 = HasBeginning in subst P (sym (append-nil line)) (Unfinished, within_line h)
begins_from (b ∷ bs) line h =
    next_byte line b bs h (λ i. let P : List ℕ → Type 0 = HasBeginning in subst P (append_assoc line (b ∷ []) bs) (begins_from bs (line ++ b ∷ []) i))

pub some_beginning : (k : List ℕ) → HasBeginning k
some_beginning k = begins_from k [] (record { plain = tt; short = lit≤ tt })

-- ---- what is settled stays, whatever follows

pub stays_settled : (k r : List ℕ) (b : Beginning) → b ≢ Unfinished → BeginsAs k b → BeginsAs (k ++ r) b
stays_settled k r (WholeLine line) s h = (h.0, (h.1.0 ++ r, ap (λ x. x ++ r) h.1.1 ∙ append_assoc (ended line) h.1.0 r))
stays_settled k r (Faulty TooLong) s (long_line line b more h n ne e) = long_line line b (more ++ r) h n ne (ap (λ x. x ++ r) e ∙ append_assoc line (b ∷ more) r)
stays_settled k r (Faulty TooLong) s (long_past_cr line b more h n ne nf e) = long_past_cr line b (more ++ r) h n ne nf (ap (λ x. x ++ r) e ∙ append_assoc line (13 ∷ b ∷ more) r)
stays_settled k r (Faulty (BadByte at)) s (stray line b more h n lt st e) = stray line b (more ++ r) h n lt st (ap (λ x. x ++ r) e ∙ append_assoc line (b ∷ more) r)
stays_settled k r (Faulty (BadByte at)) s (no_lf line b more h n ne w e) = no_lf line b (more ++ r) h n ne w (ap (λ x. x ++ r) e ∙ append_assoc line (13 ∷ b ∷ more) r)
stays_settled k r Unfinished s h = absurd (s refl)
