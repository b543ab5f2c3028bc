-- Where bytes that are not UTF-8 break: as what stands after their longest front that is.
use Rattle.std.proofs.Common.{◌≡◌, ◌≢◌, ℕ, ◌+◌, ◌-◌, ◌<◌, ◌≤◌, true, List, [], ◌∷◌, ◌++◌, length, take, drop, inl, inr, sym, ap, ◌∙◌, subst, arith, length-take, length-drop, length-append, take-add, take-take, take-append-drop, append_assoc}
use Rattle.std.proofs.Math.Seq.{take-append_seam, drop-append_seam}
use Rattle.std.proofs.lemmas.Bool.{cases_lt, and_parts}
use Rattle.std.proofs.lemmas.List.{append-nil, take-append-le}
use Rattle.std.proofs.lemmas.Str.{IsUtf8-append, IsUtf8-encode, encode_ascii, length-encode, len_utf8_bounds}
use Rattle.std.specs.Str.{IsUtf8, IsValidUpTo}
use lib.Utf8.{scalar, scalars, encode, encodes}
use Rattle.simdutf8.proofs.Parts.{front_and_part, rest_of_whole}
use Rattle.dbus_texts.specs.Kinds.{IsBreakIn, IsPrefixIn, IsText}
use Rattle.dbus_texts.proofs.KindFacts.{text_utf8}

-- no front of these but the empty one is UTF-8
abbrev NoFront : List ℕ → Type 0
NoFront rest = (m : ℕ) → 0 < m → IsUtf8 (take m rest) → ⊥

module _ (rest : List ℕ) (none : NoFront rest) (m : ℕ) (some : 0 < m) (within : m ≤ length rest) (more : List ℕ) where
  -- the character that begins so is longer than that: so it is not U+0000
  of_character : (c : ℕ) (after : List ℕ) → scalar c ≡ true → encode c ++ after ≡ take m rest ++ more → IsPrefixIn IsText (take m rest)
  of_character c after valid same =
      let size = length (encode c) in
      let bounds = len_utf8_bounds c in
      let long = length-encode c in
      let size_taken = length-take m rest in
      elim (cases_lt m size) [
        | inl less ↦ (
            let front : take m (encode c) ≡ take m rest =
            sym (take-append-le m (encode c) after (omega (arith, less))) ∙ ap (take m) same ∙ take-append-le m (take m rest) more (omega (arith, size_taken, within)) ∙ take-take m m rest (omega arith) in
            let one : (c ≡ 0) → size ≡ 1 = λ e. ap (λ (n : ℕ). length (encode n)) e ∙ ap length (encode_ascii 0 (omega arith)) in
            let not_zero : c ≢ 0 = λ e. (let short = one e in omega (arith, less, short, some)) in
            let whole : take m rest ++ drop m (encode c) ≡ encode c = ap (λ (l : List ℕ). l ++ drop m (encode c)) (sym front) ∙ take-append-drop m (encode c) in
            (drop m (encode c), (c ∷ [], ((valid, not_zero), tt), whole ∙ sym (append-nil (encode c))))
            )
        | inr most ↦ (
            let front : encode c ≡ take size rest =
            sym (take-append_seam (encode c) after) ∙ ap (take size) same ∙ take-append-le size (take m rest) more (omega (arith, size_taken, within, most)) ∙ take-take size m rest most in
            absurd (none size (omega (arith, bounds, long)) (subst IsUtf8 front (IsUtf8-encode c valid)))
            )
      ]

  of_characters : (cs : List ℕ) → scalars cs ≡ true → encodes cs ≡ take m rest ++ more → IsPrefixIn IsText (take m rest)
  of_characters [] valid same = absurd (omega (arith, ap length same, length-append (take m rest) more, length-take m rest, some, within))
  of_characters (c ∷ cs) valid same = of_character c (encodes cs) (and_parts (scalar c) (scalars cs) valid).0 same

-- what begins with no character breaks UTF-8 where it breaks other text
rest_breaks : (rest : List ℕ) (k : ℕ) → NoFront rest → IsBreakIn IsText rest k → IsBreakIn IsUtf8 rest k
rest_breaks rest k none h = record {
  within = h.within;
  front = (h.front.0, (text_utf8 _ h.front.1).0);
  longest = λ m more within p. h.longest m more within (of_characters rest none m (omega (arith, more)) within p.0 p.1.0 p.1.1.0 p.1.1.1);
}

after_front : (xs ys : List ℕ) → IsUtf8 xs → IsUtf8 (xs ++ ys) → IsUtf8 ys
after_front xs ys front whole =
    subst IsUtf8 (drop-append_seam xs ys) (rest_of_whole (xs ++ ys) (length xs) (omega (arith, length-append xs ys)) (subst IsUtf8 (sym (take-append_seam xs ys)) front) whole)

-- so a line breaks where the rest does
pub line_breaks : (line : List ℕ) (u v k : ℕ) → IsValidUpTo line u → v ≡ u → IsBreakIn IsText (drop v line) k → IsBreakIn IsUtf8 line (v + k)
line_breaks line u v k upto same broken =
    let valid = subst (IsValidUpTo line) (sym same) upto in
    let short = valid.short in
    let long = length-drop v line in
    let none : NoFront (drop v line) = λ m some u. valid.longest (v + m) (omega (arith, some)) (front_and_part line v (omega (arith, short)) valid.front m u) in
    let h = rest_breaks (drop v line) k none broken in
    let split : (n : ℕ) (more : List ℕ) → take (v + n) line ++ more ≡ take v line ++ (take n (drop v line) ++ more) =
    λ n more. ap (λ (l : List ℕ). l ++ more) (take-add v n line) ∙ append_assoc (take v line) (take n (drop v line)) more in
    record {
      within = omega (arith, short, h.within, long);
      front = (h.front.0, subst IsUtf8 (sym (split k h.front.0)) (IsUtf8-append _ _ valid.front h.front.1));
      longest = λ m more within p.
          let n = m - v in
          let is : v + n ≡ m = omega (arith, more) in
          let u = subst IsUtf8 (ap (λ (j : ℕ). take j line ++ p.0) (sym is) ∙ split n p.0) p.1 in
          h.longest n (omega (arith, more)) (omega (arith, more, within, long)) (p.0, after_front _ _ valid.front u);
    }
