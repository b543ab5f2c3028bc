-- The first U+0000 of a text.
use Rattle.std.proofs.Common.{◌≡◌, ◌≢◌, ℕ, suc, ◌+◌, ◌<◌, ◌≤◌, Bool, true, false, cond, not, eqb, ltb, Option, Some, None, List, [], ◌∷◌, ◌++◌, length, take, drop, refl, sym, ap, ◌∙◌, subst, arith}
use Rattle.std.specs.Prelude.{◌==◌, position}
use Rattle.std.specs.List.{AllByRecursion, position_or_len}
use Rattle.std.proofs.lemmas.Bool.{eqb-true, eqb-false, ltb-true, ltb-false}
use Rattle.std.proofs.lemmas.List.{length-take-le}
use Rattle.std.proofs.lemmas.List.Sums.{prefix_len-le-length}
use Rattle.dbus_rule.specs.Faults.{IsNul}

pub record IsRun (w : List ℕ) (n : ℕ) : Type 0 where
  pub front : AllByRecursion (λ b. b ≢ 0) (take n w)
  pub stop : n < length w → w ≡ take n w ++ 0 ∷ drop (n + 1) w
  pub whole : length w ≤ n → AllByRecursion (λ b. b ≢ 0) w

run_more : (b : ℕ) (c : List ℕ) (n : ℕ) → b ≢ 0 → IsRun c n → IsRun (b ∷ c) (1 + n)
run_more b c n e h =
    let s : suc n ≡ 1 + n = omega arith in
    let t : suc (n + 1) ≡ suc n + 1 = omega arith in
    subst (λ k. IsRun (b ∷ c) k) s
    (record {
      front = (e, h.front);
      stop = λ l. ap (λ z. b ∷ z) (h.stop (omega (arith, l))) ∙ ap (λ k. b ∷ (take n c ++ 0 ∷ drop k (b ∷ c))) t;
      whole = λ l. (e, h.whole (omega (arith, l)));
    })

run_step : (b : ℕ) (c : List ℕ) (n : ℕ) (t : Bool) → eqb b 0 ≡ t → IsRun c n → IsRun (b ∷ c) (cond (not t) (1 + n) 0)
run_step b c n true e h =
    let t : 0 + 1 ≡ 1 = omega arith in
    record { front = tt; stop = λ l. ap (λ z. z ∷ c) (eqb-true b 0 e) ∙ ap (λ k. 0 ∷ drop k (b ∷ c)) (sym t); whole = λ l. absurd (omega (arith, l)) }
run_step b c n false e h = run_more b c n (eqb-false b 0 e) h

nul_run : (w : List ℕ) → IsRun w (position_or_len (λ b. b == 0) w)
nul_run [] = record { front = tt; stop = λ l. absurd (omega (arith, l)); whole = λ l. tt }
nul_run (b ∷ c) = run_step b c (position_or_len (λ d. d == 0) c) (eqb b 0) refl (nul_run c)

some_place : (n at : ℕ) (t : Bool) → ◌≡◌ {A = Option ℕ} (cond t (Some n) None) (Some at) → (t ≡ true) × (n ≡ at)
some_place n at true e = (refl, cc)
some_place n at false e = absurd (cc)

none_place : (n : ℕ) (t : Bool) → ◌≡◌ {A = Option ℕ} (cond t (Some n) None) None → t ≡ false
none_place n true e = absurd (cc)
none_place n false e = refl

pub nul_at : (w : List ℕ) (at : ℕ) → Some at ≡ position (λ b. b == 0) w → IsNul w at
nul_at w at e =
    let n = position_or_len (λ b. b == 0) w in
    let p = some_place n at (ltb n (length w)) (sym e) in
    let l = ltb-true n (length w) p.0 in
    let r = nul_run w in
    let k = prefix_len-le-length (λ b. not (b == 0)) w in
    record { front = take n w; more = drop (n + 1) w; before = r.front; spelled = r.stop l; place = sym p.1 ∙ sym (length-take-le n w k) }

pub no_nul_in : (w : List ℕ) → None ≡ position (λ b. b == 0) w → AllByRecursion (λ b. b ≢ 0) w
no_nul_in w e =
    let n = position_or_len (λ b. b == 0) w in
    (nul_run w).whole (ltb-false n (length w) (none_place n (ltb n (length w)) (sym e)))
