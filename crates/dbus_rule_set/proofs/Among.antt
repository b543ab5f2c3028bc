-- Hashes among some, and the next one of them.
use Rattle.std.proofs.Common.{◌≡◌, ◌⊎◌, ⊎_elim, inl, inr, ℕ, ◌+◌, ◌<◌, ◌≤◌, List, [], ◌∷◌, ◌++◌, length, get_or, drop, min, Option, Some, None, refl, sym, subst, string_bytes, arith}
use Rattle.dbus_rule_set.specs.Places.{IsAmong, IsNext}

pub among_kept : (h x : ℕ) (xs : List ℕ) → IsAmong h xs → IsAmong h (xs ++ x ∷ [])
among_kept h x [] i = absurd i
among_kept h x (y ∷ ys) i = ⊎_elim (λ e. inl e) (λ j. inr (among_kept h x ys j)) i

pub among_new : (x : ℕ) (xs : List ℕ) → IsAmong x (xs ++ x ∷ [])
among_new x [] = inl refl
among_new x (y ∷ ys) = inr (among_new x ys)

pub among_split : (h x : ℕ) (xs : List ℕ) → IsAmong h (xs ++ x ∷ []) → IsAmong h xs ⊎ (h ≡ x)
among_split h x [] i = ⊎_elim (λ e. inr e) (λ j. absurd j) i
among_split h x (y ∷ ys) i = ⊎_elim (λ e. inl (inl e)) (λ j. ⊎_elim (λ k. inl (inr k)) (λ e. inr e) (among_split h x ys j)) i

-- one more hash below the number, and one that is not
pub next_below : (from x : ℕ) (next : Option ℕ) (hs : List ℕ) → x < from → IsNext from next hs → IsNext from next (hs ++ x ∷ [])
next_below from x None hs l is = λ h i. ⊎_elim (λ j. is h j) (λ e. omega (arith, l, e)) (among_split h x hs i)
next_below from x (Some n) hs l is = (is.0, λ h i. ⊎_elim (λ j. is.1 h j) (λ e. inl (omega (arith, l, e))) (among_split h x hs i))

pub next_first : (from x : ℕ) (hs : List ℕ) → from ≤ x → IsNext from None hs → IsNext from (Some x) (hs ++ x ∷ [])
next_first from x hs l is = (l, λ h i. ⊎_elim (λ j. inl (is h j)) (λ e. inr (omega (arith, e))) (among_split h x hs i))

pub next_lesser : (from x n m : ℕ) (hs : List ℕ) → from ≤ x → m ≡ min n x → IsNext from (Some n) hs → IsNext from (Some m) (hs ++ x ∷ [])
next_lesser from x n m hs l e is =
    let up : from ≤ n = is.0 in (
      omega (arith, l, e, up),
      λ h i. ⊎_elim (λ j. ⊎_elim (λ b. inl b) (λ g. inr (omega (arith, e, g))) (is.1 h j)) (λ q. inr (omega (arith, e, q))) (among_split h x hs i),
    )
