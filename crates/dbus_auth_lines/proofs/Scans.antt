-- The scan, byte by byte and over the bytes of a line.
use Rattle.std.proofs.Common.{◌≡◌, ◌≢◌, ℕ, ◌+◌, ◌<◌, ◌≤◌, ◌==◌, Bool, true, false, cond, List, [], ◌∷◌, ◌++◌, length, drop, get_or, refl, sym, ◌∙◌, ap, arith, append_assoc, add-zero}
use Rattle.std.proofs.lemmas.Bool.{and_right, ne_eqb}
use Rattle.std.proofs.lemmas.Bool.Decides.{nat_tests}
use Rattle.std.proofs.lemmas.List.{at_drop_more, at_drop_all}
use Rattle.std.specs.List.{AllByRecursion}
use Rattle.dbus_auth_lines.specs.Lines.{ended}
use Rattle.dbus_auth_lines.specs.Cut.{TooLong, BadByte, Ends, Bad, More, passes_limit, is_bad, scan_from, cut, IsPlain, IsLine}

pub scan_step : (at : ℕ) (cr : Bool) (b : ℕ) (bs : List ℕ) (p q r : Bool) → passes_limit at cr b ≡ p → is_bad cr b ≡ q → cr ≡ r
    → scan_from at cr (b ∷ bs) ≡ cond p (Bad TooLong) (cond q (Bad (BadByte at)) (cond r (Ends (at + 1)) (scan_from (at + 1) (b == 13) bs)))
unfolding scan_from
scan_step at cr b bs p q r e f g = rw (e, f, g) refl

pub scan_none : (at : ℕ) (cr : Bool) → scan_from at cr [] ≡ More
unfolding scan_from
scan_none at cr = refl

pub cut_empty : (bytes : List ℕ) → bytes ≡ [] → cut bytes ≡ More
cut_empty bytes e = ap cut e ∙ scan_none 0 false

-- ---- a line's bytes

plain_is_good : (b : ℕ) → IsPlain b → is_bad false b ≡ false
plain_is_good b p =
    let a = p.not_nul in let c = p.ascii in let d = p.not_lf in grind (arith, nat_tests)

pub not_cr_test : (b : ℕ) → IsPlain b → (b == 13) ≡ false
not_cr_test b p = ne_eqb b 13 p.not_cr

pub stays_within : (at : ℕ) (cr : Bool) (b : ℕ) → at ≢ 16382 → passes_limit at cr b ≡ false
stays_within at cr b h = rw (ne_eqb at 16382 h) refl

scan_over : (at : ℕ) (line rest : List ℕ) → AllByRecursion IsPlain line → at + length line ≤ 16382 → scan_from at false (line ++ rest) ≡ scan_from (at + length line) false rest
scan_over at [] rest plain short = ap (λ n. scan_from n false rest) (sym (add-zero at))
scan_over at (b ∷ bs) rest plain short =
    let e : at + 1 + length bs ≡ at + length (b ∷ bs) = omega arith in
    scan_step at false b (bs ++ rest) false false false (stays_within at false b (λ i. omega arith)) (plain_is_good b plain.0) refl
    ∙ ap (λ c. scan_from (at + 1) c (bs ++ rest)) (not_cr_test b plain.0) ∙ scan_over (at + 1) bs rest plain.1 (omega arith) ∙ ap (λ n. scan_from n false rest) e

pub cut_over : (line rest : List ℕ) → IsLine line → cut (line ++ rest) ≡ scan_from (length line) false rest
cut_over line rest h =
    let e : 0 + length line ≡ length line = omega arith in
    scan_over 0 line rest h.plain (omega (arith, h.short)) ∙ ap (λ n. scan_from n false rest) e

-- CR is no fault after a line's bytes
pub cut_over_cr : (line rest : List ℕ) → IsLine line → cut (line ++ 13 ∷ rest) ≡ scan_from (length line + 1) true rest
cut_over_cr line rest h = cut_over line (13 ∷ rest) h ∙ scan_step (length line) false 13 rest false false false (and_right (length line == 16382) false refl) refl refl

pub cut_line : (line more : List ℕ) → IsLine line → cut (ended line ++ more) ≡ Ends (length line + 2)
cut_line line more h =
    ap cut (append_assoc line (13 ∷ 10 ∷ []) more) ∙ cut_over_cr line (10 ∷ more) h
    ∙ scan_step (length line + 1) true 10 more false false true (and_right (length line + 1 == 16382) false refl) refl refl ∙ ap Ends (omega arith)

-- ---- the steps of a scan in code

pub scan_end : (xs : List ℕ) (i at : ℕ) (cr : Bool) → length xs ≤ i → scan_from at cr (drop i xs) ≡ More
scan_end xs i at cr le = at_drop_all (scan_from at cr) xs i le ∙ scan_none at cr

pub scan_at : (xs : List ℕ) (i at : ℕ) (cr p q r : Bool) → i < length xs → passes_limit at cr (get_or xs i 0) ≡ p → is_bad cr (get_or xs i 0) ≡ q → cr ≡ r
    → scan_from at cr (drop i xs) ≡ cond p (Bad TooLong) (cond q (Bad (BadByte at)) (cond r (Ends (at + 1)) (scan_from (at + 1) (get_or xs i 0 == 13) (drop (i + 1) xs))))
scan_at xs i at cr p q r lt e f g = at_drop_more (scan_from at cr) xs i 0 lt ∙ scan_step at cr (get_or xs i 0) (drop (i + 1) xs) p q r e f g
