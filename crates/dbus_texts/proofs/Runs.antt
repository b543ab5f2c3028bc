-- What the steps of a scan take, over whole texts.
use Rattle.std.proofs.Common.{◌≡◌, ℕ, zero, suc, ◌<◌, ◌≤◌, Bool, true, false, Option, Some, None, List, [], ◌∷◌, ◌++◌, ⊎_elim, length, take, refl, ap, arith}
use Rattle.std.specs.List.{AllByRecursion}
use Rattle.std.proofs.lemmas.Bool.{false≢true, cases_lt}
use Rattle.dbus_texts.specs.Kinds.{IsPrefixIn, IsBreakIn}
use Rattle.dbus_texts.specs.Quotients.{IsStepFrom, IsStep, Moves}
use Rattle.dbus_texts.specs.ComputedKinds.{taken, accepts}

module _ {S : Type 0} (next : S → ℕ → Option S) where
  abbrev taken_at : Option S → List ℕ → ℕ
  taken_at o w = elim o [ None ↦ 0 | Some t ↦ suc (taken next t w) ]

  -- once a text has broken, it stays broken there
  more_at : (o : Option S) (w c : List ℕ) → ((t : S) → taken next t w < length w → taken next t (w ++ c) ≡ taken next t w) → taken_at o w < suc (length w) → taken_at o (w ++ c) ≡ taken_at o w
  more_at None w c ih h = refl
  more_at (Some t) w c ih h = ap suc (ih t (omega arith))

  pub taken_more : (w : List ℕ) (s : S) (c : List ℕ) → taken next s w < length w → taken next s (w ++ c) ≡ taken next s w
  taken_more [] s c h = absurd (omega arith)
  taken_more (b ∷ w) s c h = more_at (next s b) w c (λ t l. taken_more w t c l) h

module _ {S : Type 0} (next : S → ℕ → Option S) (end : S → Bool) where
  abbrev accepts_at : Option S → List ℕ → Bool
  accepts_at o w = elim o [ None ↦ false | Some t ↦ accepts next end t w ]

  -- every byte of a text that is accepted may be stepped over
  module _ (P : ℕ → Type 0) (each : (s : S) (b : ℕ) (t : S) → next s b ≡ Some t → P b) where
    bytes_at : (s : S) (b : ℕ) (w : List ℕ) (o : Option S) → next s b ≡ o → ((t : S) → accepts next end t w ≡ true → AllByRecursion P w) → accepts_at o w ≡ true → AllByRecursion P (b ∷ w)
    bytes_at s b w None e ih h = absurd (false≢true h)
    bytes_at s b w (Some t) e ih h = (each s b t e, ih t h)

    pub accepts_bytes : (w : List ℕ) (s : S) → accepts next end s w ≡ true → AllByRecursion P w
    accepts_bytes [] s h = tt
    accepts_bytes (b ∷ w) s h = bytes_at s b w (next s b) refl (λ t q. accepts_bytes w t q) h

  -- a set's steps and ends
  module _ (Rest : S → List ℕ → Type 0) (moves : (s : S) (b : ℕ) → IsStep Rest s b (next s b)) where
    module _ (ends : (s : S) → end s ≡ true → Rest s []) where
      is_at : (R : List ℕ → Type 0) (b : ℕ) (w : List ℕ) (o : Option S) → IsStepFrom Rest R b o → ((t : S) → accepts next end t w ≡ true → Rest t w) → accepts_at o w ≡ true → R (b ∷ w)
      is_at R b w None m ih h = absurd (false≢true h)
      is_at R b w (Some t) m ih h = m.from w (ih t h)

      pub accepts_is : (w : List ℕ) (s : S) → accepts next end s w ≡ true → Rest s w
      accepts_is [] s h = ends s h
      accepts_is (b ∷ w) s h = is_at (Rest s) b w (next s b) (moves s b) (λ t q. accepts_is w t q) h

    module _ (ended : (s : S) → Rest s [] → end s ≡ true) where
      of_at : (R : List ℕ → Type 0) (b : ℕ) (w : List ℕ) (o : Option S) → IsStepFrom Rest R b o → ((t : S) → Rest t w → accepts next end t w ≡ true) → R (b ∷ w) → accepts_at o w ≡ true
      of_at R b w None m ih h = absurd (m w h)
      of_at R b w (Some t) m ih h = ih t (m.to w h)

      pub accepts_of : (w : List ℕ) (s : S) → Rest s w → accepts next end s w ≡ true
      accepts_of [] s h = ended s h
      accepts_of (b ∷ w) s h = of_at (Rest s) b w (next s b) (moves s b) (λ t q. accepts_of w t q) h

-- where the steps stop is the break
module _ {S : Type 0} (next : S → ℕ → Option S) (Rest : S → List ℕ → Type 0) (moves : (s : S) (b : ℕ) → IsStep Rest s b (next s b)) where
  dead : (R : List ℕ → Type 0) (b : ℕ) (w : List ℕ) → ((c : List ℕ) → R (b ∷ c) → ⊥) → (m : ℕ) → 0 < m → IsPrefixIn R (take m (b ∷ w)) → ⊥
  dead R b w n zero l p = omega arith
  dead R b w n (suc m) l p = n (take m w ++ p.0) p.1

  further : (R : List ℕ → Type 0) (b : ℕ) (w : List ℕ) (t : S) → Moves R b (Rest t) → (n : ℕ) → IsBreakIn (Rest t) w n → (m : ℕ) → suc n < m → m ≤ suc (length w) → IsPrefixIn R (take m (b ∷ w)) → ⊥
  further R b w t v n i zero l k p = omega arith
  further R b w t v n i (suc m) l k p = i.longest m (omega arith) (omega arith) (p.0, v.to (take m w ++ p.0) p.1)

  breaks_at : (R : List ℕ → Type 0) (b : ℕ) (w : List ℕ) (o : Option S) → IsStepFrom Rest R b o → (c : List ℕ) × R c → ((t : S) → (c : List ℕ) × Rest t c → IsBreakIn (Rest t) w (taken next t w)) → IsBreakIn R (b ∷ w) (taken_at next o w)
  breaks_at R b w None m some ih = record { within = omega arith; front = some; longest = λ k l i p. dead R b w m k l p }
  breaks_at R b w (Some t) m some ih =
      let n = taken next t w in
      let i = ih t m.some in
      record {
        within = omega (arith, i.within);
        front = (i.front.0, m.from (take n w ++ i.front.0) i.front.1);
        longest = λ k l q p. further R b w t m n i k l q p;
      }

  pub taken_breaks : (w : List ℕ) (s : S) → (c : List ℕ) × Rest s c → IsBreakIn (Rest s) w (taken next s w)
  taken_breaks [] s some = record { within = omega arith; front = some; longest = λ m l k p. absurd (omega arith) }
  taken_breaks (b ∷ w) s some = breaks_at (Rest s) b w (next s b) (moves s b) some (λ t q. taken_breaks w t q)

-- a text has one break
pub one_break_in : (L : List ℕ → Type 0) (w : List ℕ) (i j : ℕ) → IsBreakIn L w i → IsBreakIn L w j → i ≡ j
one_break_in L w i j p q =
    ⊎_elim
    (λ l. absurd (p.longest j l q.within q.front))
    (λ l. ⊎_elim (λ m. absurd (q.longest i m p.within p.front)) (λ m. omega arith) (cases_lt j i))
    (cases_lt i j)

-- two sets with the same texts break alike
pub break_along : (L M : List ℕ → Type 0) (w : List ℕ) (n : ℕ) → ((c : List ℕ) → L c → M c) → ((c : List ℕ) → M c → L c) → IsBreakIn L w n → IsBreakIn M w n
break_along L M w n to from i =
    record {
      within = i.within;
      front = (i.front.0, to (take n w ++ i.front.0) i.front.1);
      longest = λ m l k p. i.longest m l k (p.0, from (take m w ++ p.0) p.1);
    }
