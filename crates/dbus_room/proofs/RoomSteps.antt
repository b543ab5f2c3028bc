-- What a write into the middle of the caller's bytes makes of them.
use borrow.Rule.Slice.PartMut.{put_mid}
use Rattle.std.proofs.Common.{◌≡◌, ℕ, zero, suc, ◌+◌, ◌-◌, ◌≤◌, List, [], ◌∷◌, ◌++◌, length, take, drop, sym, ap, ◌∙◌, arith, length-append, min}
use Rattle.std.proofs.lemmas.List.{take-append-drop, take_all, length-take, length-drop}
use Rattle.std.proofs.lemmas.Slice.{take-put_mid, drop-put_mid}
use Rattle.std.proofs.Math.Seq.{take-append-add}

-- a front that is cut at the end of the list
take_most : (m k : ℕ) (l : List ℕ) → k ≡ min (length l) m → take m l ≡ take k l
take_most zero k l e = let none : 0 ≡ k = omega (arith, e) in ap (λ (j : ℕ). take j l) none
take_most (suc m) k [] e = sym (take_all k [] (omega arith))
take_most (suc m) zero (x ∷ xs) e = absurd (omega (arith, e))
take_most (suc m) (suc k) (x ∷ xs) e = ap (λ (l : List ℕ). x ∷ l) (take_most m k xs (omega (arith, e)))

-- the first bytes of a text, as many as there is room for behind the first n
module _ (old text part : List ℕ) (n k : ℕ) (fits : n ≤ length old) (most : k ≡ min (length text) (length old - n)) (is : part ≡ take k text) where
  abbrev new : List ℕ
  new = put_mid n (n + k - n) old part

  long : length part ≡ k
  long = ap length is ∙ omega (arith, length-take k text, most)

  front : take (n + k) new ≡ take n old ++ part
  front = take-put_mid n (n + k - n) old part (n + k) (omega (arith, long)) fits

  pub behind : drop (n + k) new ≡ drop (n + k) old
  behind = drop-put_mid n (n + k - n) old part (n + k) (omega arith) fits (omega (arith, long))

  pub size : length new ≡ length old
  size =
      let all = length-append (take (n + k) new) (drop (n + k) new) in
      let same = ap length (take-append-drop (n + k) new) in
      let first = ap length front in
      let last = ap length behind in
      omega (arith, all, same, first, last, length-append (take n old) part, length-take n old, length-drop (n + k) old, long, most, fits)

  pub written : take (n + k) new ≡ take (length old) (take n old ++ text)
  written =
      let apart : length (take n old) + (length old - n) ≡ length old = omega (arith, length-take n old, fits) in
      front ∙ (ap (λ (l : List ℕ). take n old ++ l) (is ∙ sym (take_most (length old - n) k text most))
      ∙ (sym (take-append-add (take n old) text (length old - n)) ∙ ap (λ (j : ℕ). take j (take n old ++ text)) apart))
