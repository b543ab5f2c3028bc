-- A text that was read, and the zero after it.
use Rattle.std.proofs.Common.{◌≡◌, ℕ, zero, suc, ◌+◌, ◌<◌, ◌≤◌, List, [], ◌∷◌, ◌++◌, length, take, drop, Bool, true, false, cond, ltb, refl, sym, ap, subst, ◌∙◌, arith}
use Rattle.std.proofs.lemmas.Bool.{ltb-true, ltb-false}
use Rattle.std.proofs.lemmas.List.{length-take, length-drop, take-append-drop}
use Rattle.dbus_value_model.specs.ByteNumbers.{IsBytes}
use Rattle.dbus_value_model.specs.WantedTexts.{WantedText, IsWanted}
use Rattle.dbus_value_model.specs.ComputedTexts.{is_kind, break_at}
use Rattle.dbus_value_model.specs.declared.fault.Fault.{Fault}
use Rattle.dbus_value_model.specs.Reading.{Outcome, Done, Faulty, Partial, after, text, nul}
use Rattle.dbus_value_laws.proofs.Agreement.{after_done}
use Rattle.dbus_value_laws.proofs.KindLaws.{wanted_is}
use Rattle.dbus_value_checker.specs.Suspended.{onward, done, ended_text}

-- ---- outcomes of which nothing is kept

pub after_refused : {A : Type 0} (r : Outcome A) (f : Fault) → after r (λ x. done) ≡ Faulty f → r ≡ Faulty f
after_refused (Done x p u) f e = absurd cc
after_refused (Faulty g) f e = cc
after_refused Partial f e = absurd cc

pub after_partial : {A : Type 0} (r : Outcome A) → after r (λ x. done) ≡ Partial → r ≡ Partial
after_partial (Done x p u) e = absurd cc
after_partial (Faulty g) e = absurd cc
after_partial Partial e = refl

-- ---- a text

chosen_done : (a b k : Bool) (f g : Fault) (t u : List ℕ) (p q : ℕ) (r v : List ℕ) → cond a (Faulty f) (cond b Partial (cond k (Done t p r) (Faulty g))) ≡ Done u q v → (b ≡ false) × (k ≡ true) × (u ≡ t) × (q ≡ p) × (v ≡ r)
chosen_done true b k f g t u p q r v e = absurd cc
chosen_done false true k f g t u p q r v e = absurd cc
chosen_done false false false f g t u p q r v e = absurd cc
chosen_done false false true f g t u p q r v e = (refl, refl, cc, cc, cc)

chosen_partial : (a b k : Bool) (f g : Fault) (t : List ℕ) (p : ℕ) (r : List ℕ) → cond a (Faulty f) (cond b Partial (cond k (Done t p r) (Faulty g))) ≡ Partial → b ≡ true
chosen_partial true b k f g t p r e = absurd cc
chosen_partial false true k f g t p r e = refl
chosen_partial false false true f g t p r e = absurd cc
chosen_partial false false false f g t p r e = absurd cc

text_done : (k : WantedText) (n o : ℕ) (s t : List ℕ) (q : ℕ) (r : List ℕ) → text k n o s ≡ Done t q r → (n ≤ length s) × IsWanted k (take n s) × (t ≡ take n s) × (q ≡ o + n) × (r ≡ drop n s)
unfolding text
text_done k n o s t q r e =
    let d = chosen_done (ltb (break_at k (take n s)) (length (take n s))) (ltb (length s) n) (is_kind k (take n s)) _ _ (take n s) t (o + n) q (drop n s) r e in
    (ltb-false (length s) n d.0, wanted_is k (take n s) d.1, d.2, d.3, d.4)

text_short : (k : WantedText) (n o : ℕ) (s : List ℕ) → text k n o s ≡ Partial → length s < n
unfolding text
text_short k n o s e = ltb-true (length s) n (chosen_partial (ltb (break_at k (take n s)) (length (take n s))) (ltb (length s) n) (is_kind k (take n s)) _ _ (take n s) (o + n) (drop n s) e)

-- ---- and the zero after it

nul_is : (o : ℕ) (s : List ℕ) (z : Unit {0}) (q : ℕ) (r : List ℕ) → nul o s ≡ Done z q r → (s ≡ 0 ∷ r) × (q ≡ o + 1)
nul_is o [] z q r e = absurd cc
nul_is o (zero ∷ s) z q r e = let is : s ≡ r = cc in (ap (λ (t : List ℕ). 0 ∷ t) is, cc)
nul_is o (suc b ∷ s) z q r e = absurd cc

nul_waits : (o : ℕ) (s t : List ℕ) → after (nul o s) (λ z. Done t) ≡ Partial → length s ≡ 0
nul_waits o [] t e = refl
nul_waits o (zero ∷ s) t e = absurd cc
nul_waits o (suc b ∷ s) t e = absurd cc

pub ended_is : (k : WantedText) (n o : ℕ) (s t : List ℕ) (q : ℕ) (r : List ℕ) → ended_text k n o s ≡ Done t q r → (t ≡ take n s) × IsWanted k t × (s ≡ t ++ 0 ∷ r) × (length t ≡ n) × (q ≡ o + n + 1)
ended_is k n o s t q r e =
    let d = after_done (text k n o s) (λ t q v. after (nul q v) (λ z. Done t)) t q r e in
    let w = after_done (nul d.1 d.2) (λ z. Done d.0) t q r d.4 in
    let x = text_done k n o s d.0 d.1 d.2 d.3 in
    let z = nul_is d.1 d.2 w.0 w.1 w.2 w.3 in
    let last = w.4 in
    let same : d.0 ≡ t = cc in
    let place : w.1 ≡ q = cc in
    let rest : w.2 ≡ r = cc in
    let is : t ≡ take n s = sym same ∙ x.2 in
    let after_it : drop n s ≡ 0 ∷ r = sym x.4 ∙ z.0 ∙ ap (λ (u : List ℕ). 0 ∷ u) rest in
    let there = x.0 in
    let at = x.3 in
    let next = z.1 in
    let l = ap length is ∙ length-take n s in (
      is,
      subst (IsWanted k) (sym is) x.1,
      sym (take-append-drop n s) ∙ ap (λ (u : List ℕ). u ++ drop n s) (sym is) ∙ ap (λ (u : List ℕ). t ++ u) after_it,
      omega (arith, l, there),
      omega (arith, place, at, next),
    )

pub ended_waits : (k : WantedText) (n o : ℕ) (s : List ℕ) → ended_text k n o s ≡ Partial → length s ≤ n
ended_waits k n o s e = go (text k n o s) refl e
  where
    go : (r : Outcome (List ℕ)) → text k n o s ≡ r → after r (λ t q v. after (nul q v) (λ z. Done t)) ≡ Partial → length s ≤ n
    go Partial is e = omega (arith, text_short k n o s is)
    go (Faulty f) is e = absurd cc
    go (Done t q v) is e =
        let none = nul_waits q v t e in
        let l = ap length (text_done k n o s t q v is).4 ∙ length-drop n s in
        omega (arith, l, none)

-- it ends where it is to
pub ended_within : (k : WantedText) (size start end : ℕ) → start + size + 1 ≤ end → (s : List ℕ) (q : ℕ) → IsBytes s → onward (ended_text k size) done start s ≡ Done tt q [] → (start ≤ q) × (q ≤ end)
ended_within k size start end fits s q are e =
    let d = after_done (ended_text k size start s) (λ x. done) tt q [] e in
    let at = (ended_is k size start s d.0 d.1 d.2 d.3).4 in
    let last = d.4 in
    let same : d.1 ≡ q = cc in
    (omega (arith, at, same), omega (arith, at, same, fits))
