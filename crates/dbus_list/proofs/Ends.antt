-- What follows the dots of a name.
use Rattle.std.proofs.Common.{◌≡◌, ◌≢◌, ℕ, suc, ◌<◌, ◌≤◌, nat_eq, nat_le, codes, List, [], ◌∷◌, ◌++◌, length, length-append, get_or, Bool, true, false, if◌then◌else◌, nat_lt, refl, sym, ap, ◌∙◌, arith}
use Rattle.std.proofs.lemmas.Bool.Decides.{nat_tests}
use Rattle.dbus_list.specs.Columns.{ends, first_short, short}
use Rattle.dbus_list.proofs.CutTexts.{passed, taken}

no_dot : (b : ℕ) → b ≢ 46 → nat_eq b 46 ≡ false
no_dot b other = grind (arith)

-- what comes before the first dot has no part in it
pub ends_after : (front end : List ℕ) → ((i : ℕ) → i < length front → get_or front i 0 ≢ 46) → ends (front ++ 46 ∷ end) ≡ end ∷ ends end
ends_after [] end none = refl
ends_after (b ∷ front) end none =
    passed (nat_eq b 46) ((front ++ 46 ∷ end) ∷ ends (front ++ 46 ∷ end)) (ends (front ++ 46 ∷ end)) (no_dot b (none 0 (omega arith)))
    ∙ ends_after front end (λ i inside. none (suc i) (omega (arith, inside)))

-- and without a dot nothing has
pub ends_none : (name : List ℕ) → ((i : ℕ) → i < length name → get_or name i 0 ≢ 46) → ends name ≡ []
ends_none [] none = refl
ends_none (b ∷ name) none = passed (nat_eq b 46) (name ∷ ends name) (ends name) (no_dot b (none 0 (omega arith))) ∙ ends_none name (λ i inside. none (suc i) (omega (arith, inside)))

-- a name that is too long is cut
pub short_cut : (most : ℕ) (name : List ℕ) → most < length name → short most name ≡ codes "~" ++ first_short most name (ends name)
short_cut most name over = passed (nat_le (length name) most) name (codes "~" ++ first_short most name (ends name)) (grind (arith, nat_tests))

-- a part that follows the first dot, and the one that is looked for
module _ (most : ℕ) (rest front end looked_for : List ℕ) (parts : rest ≡ front ++ 46 ∷ end) (none : (i : ℕ) → i < length front → get_or front i 0 ≢ 46) (is : first_short most rest (ends rest) ≡ looked_for) where
  first_is : first_short most rest (end ∷ ends end) ≡ looked_for
  first_is = ap (λ (es : List (List ℕ)). first_short most rest es) (sym (ap ends parts ∙ ends_after front end none)) ∙ is

  -- it is short
  pub short_here : length end < most → end ≡ looked_for
  short_here few = sym (taken (nat_lt (length end) most) end (first_short most end (ends end)) (grind (arith, nat_tests))) ∙ first_is

  -- it is not
  pub short_later : most ≤ length end → first_short most end (ends end) ≡ looked_for
  short_later many = sym (passed (nat_lt (length end) most) end (first_short most end (ends end)) (grind (arith, nat_tests))) ∙ first_is

-- no part follows
pub short_last : (most : ℕ) (rest looked_for : List ℕ) → ((i : ℕ) → i < length rest → get_or rest i 0 ≢ 46) → first_short most rest (ends rest) ≡ looked_for → rest ≡ looked_for
short_last most rest looked_for none is = ap (λ (es : List (List ℕ)). first_short most rest es) (sym (ends_none rest none)) ∙ is

-- What follows the first dot of the last bytes, if these are so many, or all, is looked for: what
-- follows an earlier one has too many.
module _ (most : ℕ) (tail front end : List ℕ) (parts : tail ≡ front ++ 46 ∷ end) (none : (i : ℕ) → i < length front → get_or front i 0 ≢ 46) (few : length end < most) where
  within_tail : (last : List ℕ) → first_short most last (ends tail) ≡ end
  within_tail last =
      ap (λ (es : List (List ℕ)). first_short most last es) (ap ends parts ∙ ends_after front end none)
      ∙ taken (nat_lt (length end) most) end (first_short most end (ends end)) (grind (arith, nat_tests))

  pub end_of_last : (before last : List ℕ) → (0 < length before → most ≤ length tail) → first_short most last (ends (before ++ tail)) ≡ end
  end_of_last [] last long = within_tail last
  end_of_last (b ∷ before) last long =
      let rest = before ++ tail in
      let many : most ≤ length tail = long (omega arith) in
      let over : nat_lt (length rest) most ≡ false = (let size = length-append before tail in grind (arith, nat_tests)) in
      let step : (d : Bool) → first_short most last (if d then rest ∷ ends rest else ends rest) ≡ end =
      elim [
        | true ↦ passed (nat_lt (length rest) most) rest (first_short most rest (ends rest)) over ∙ end_of_last before rest (λ _. many)
        | false ↦ end_of_last before last (λ _. many)
      ] in
      step (nat_eq b 46)
