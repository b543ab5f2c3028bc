-- Tests of numbers, and what is chosen by them.
use Rattle.std.proofs.Common.{◌≡◌, ◌≢◌, inl, inr, ℕ, ◌<◌, ◌≤◌, Bool, true, false, cond, nat_lt, nat_eq, refl, sym, ap, ◌∙◌, arith}
use Rattle.std.specs.Prelude.{nat_le}
use Rattle.std.proofs.lemmas.Bool.{cases_lt}
use Rattle.std.proofs.lemmas.Bool.Decides.{nat_tests}

pub lt_false : (a b : ℕ) → b ≤ a → nat_lt a b ≡ false
lt_false a b h = grind (arith, h)

pub lt_true : (a b : ℕ) → a < b → nat_lt a b ≡ true
lt_true a b h = grind (arith, h)

pub le_true : (a b : ℕ) → a ≤ b → nat_le a b ≡ true
le_true a b h = grind (arith, h)

pub eq_is : (a b : ℕ) → a ≡ b → nat_eq a b ≡ true
eq_is a b e = grind (arith, e)

pub eq_not : (a b : ℕ) → a ≢ b → nat_eq a b ≡ false
eq_not a b n = elim (cases_lt a b) [ inl h ↦ grind (arith, h) | inr h ↦ elim (cases_lt b a) [ inl k ↦ grind (arith, k) | inr k ↦ absurd (n (omega (arith, h, k))) ] ]

pub when_true : {A : Type 0} (b : Bool) (x y : A) → b ≡ true → cond b x y ≡ x
when_true {A} b x y e = ap (λ (v : Bool). cond {A = A} v x y) e

pub when_false : {A : Type 0} (b : Bool) (x y : A) → b ≡ false → cond b x y ≡ y
when_false {A} b x y e = ap (λ (v : Bool). cond {A = A} v x y) e

pub eq_told : (a b : ℕ) → nat_eq a b ≡ true → a ≡ b
eq_told a b e = grind (arith, nat_tests)

pub eq_untold : (a b : ℕ) → nat_eq a b ≡ false → a ≢ b
eq_untold a b e = λ same. absurd (let is : nat_eq a b ≡ true = eq_is a b same in let no : ◌≡◌ {A = Bool} true false = sym is ∙ e in cc)

pub lt_untold : (a b : ℕ) → nat_lt a b ≡ false → b ≤ a
lt_untold a b e = grind (arith, nat_tests)

pub le_untold : (a b : ℕ) → nat_le a b ≡ false → b < a
le_untold a b e = grind (arith, nat_tests)

-- a property of what is chosen
pub when : {A : Type 0} (P : A → Type 0) (b : Bool) (x y : A) → (b ≡ true → P x) → (b ≡ false → P y) → P (cond b x y)
when P true x y f g = f refl
when P false x y f g = g refl

-- of two choices by one test
pub when_both : {A B : Type 0} (P : A → B → Type 0) (b : Bool) (x y : A) (v w : B) → (b ≡ true → P x v) → (b ≡ false → P y w) → P (cond b x y) (cond b v w)
when_both P true x y v w f g = f refl
when_both P false x y v w f g = g refl
