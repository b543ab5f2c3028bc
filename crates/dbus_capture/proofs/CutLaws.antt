-- What a packet states in its first bytes, and whether it is cut.
use Rattle.std.proofs.Common.{◌≤◌, ◌≡◌, ◌⊎◌, inl, inr, ℕ, ◌+◌, ◌<◌, Bool, true, false, nat_lt, cond, List, [], ◌∷◌, ◌++◌, length, refl, sym, ap, ◌∙◌, arith}
use Rattle.std.specs.Prelude.{◌==◌, ◌&&◌, ◌||◌, nat_le, slice_index}
use Rattle.std.proofs.lemmas.Bool.{cases_lt, and_parts, or_cases}
use Rattle.std.proofs.lemmas.Bool.Decides.{nat_tests}
use Rattle.dbus_capture.specs.Types.{ByteOrder, Little, Big}
use Rattle.dbus_capture.specs.CutPackets.{stated_in, stated, falls_short, Captured, is_cut, alone_after}
use Rattle.dbus_capture.proofs.Choices.{lt_true, lt_untold, lt_false}
use Rattle.dbus_capture.proofs.NumberLaws.{u32_in_front}

-- what follows the first 16 bytes does not matter
stated_by : (o : ByteOrder) (front more : List ℕ) → 16 ≤ length front → stated_in o (front ++ more) ≡ stated_in o front
stated_by o front more enough =
    let fields = u32_in_front o front more 12 (omega (arith, enough)) in
    let body = u32_in_front o front more 4 (omega (arith, enough)) in
    simp (fields, body)

pub stated_front : (front more : List ℕ) → 16 ≤ length front → stated (front ++ more) ≡ stated front
stated_front [] more enough = absurd (omega (arith, enough))
stated_front (x ∷ xs) more enough =
    let little = stated_by Little (x ∷ xs) more enough in
    let big = stated_by Big (x ∷ xs) more enough in
    ap (λ (n : ℕ). cond (x == 0x6c) n (cond (x == 0x42) (stated_in Big ((x ∷ xs) ++ more)) 0)) little ∙ ap (λ (n : ℕ). cond (x == 0x6c) (stated_in Little (x ∷ xs)) (cond (x == 0x42) n 0)) big

-- ---- what is cut

or_not : (a b : Bool) → (a || b) ≡ false → (a ≡ false) × (b ≡ false)
or_not true b e = cc
or_not false b e = (refl, e)

-- one that is cut is left out
pub alone_kept : (alone : Bool) (p : Captured) → is_cut alone p ≡ true → alone_after alone p ≡ alone
alone_kept true p e = ap (λ (v : Bool). v || (length p.bytes == stated p.bytes)) e
alone_kept false p e = refl

-- so is one of no bytes, and none counts after one that was not one message
pub alone_still : (alone : Bool) (p : Captured) → is_cut alone p ≡ false → (alone && nat_lt 0 (length p.bytes)) ≡ false → alone_after alone p ≡ alone
alone_still false p e none = refl
alone_still true p e none = ap (λ (v : Bool). v || (length p.bytes == stated p.bytes)) e ∙ empty p.bytes none
  where
    empty : (bytes : List ℕ) → nat_lt 0 (length bytes) ≡ false → (length bytes == stated bytes) ≡ true
    empty [] e = refl
    empty (x ∷ xs) e = absurd (let none = lt_untold 0 (length (x ∷ xs)) e in omega (arith, none))

-- one that is not cut has all its bytes, and as many as it states
pub whole_told : (alone : Bool) (p : Captured) → is_cut alone p ≡ false
    → (p.original ≤ length p.bytes) × (alone ≡ true → 0 < length p.bytes → (16 ≤ length p.bytes) × (stated p.bytes ≤ length p.bytes)) × (alone ≡ true → alone_after alone p ≡ (length p.bytes == stated p.bytes))
whole_told alone p e =
    let parts = or_not (nat_lt (length p.bytes) p.original) (alone && falls_short p.bytes) e in (
      lt_untold (length p.bytes) p.original parts.0,
      λ is some.
          let short : falls_short p.bytes ≡ false = ap (λ (v : Bool). v && falls_short p.bytes) (sym is) ∙ parts.1 in
          let there = lt_true 0 (length p.bytes) some in
          let both = or_not (nat_lt (length p.bytes) 16) (nat_lt (length p.bytes) (stated p.bytes)) (ap (λ (v : Bool). v && (nat_lt (length p.bytes) 16 || nat_lt (length p.bytes) (stated p.bytes))) (sym there) ∙ short) in
          (lt_untold (length p.bytes) 16 both.0, lt_untold (length p.bytes) (stated p.bytes) both.1),
      λ is. ap (λ (v : Bool). v && (is_cut alone p || (length p.bytes == stated p.bytes))) is ∙ ap (λ (v : Bool). v || (length p.bytes == stated p.bytes)) e,
    )

-- one of which all bytes were captured is cut by what it states
pub short_told : (alone : Bool) (p : Captured) → is_cut alone p ≡ true → p.original ≤ length p.bytes
    → (alone ≡ true) × (0 < length p.bytes) × ((length p.bytes < 16) ⊎ (length p.bytes < stated p.bytes))
short_told alone p e all = elim (or_cases (nat_lt (length p.bytes) p.original) (alone && falls_short p.bytes) e) [
  | inl short ↦ absurd (grind (arith, nat_tests, short, all))
  | inr both ↦
      let parts = and_parts alone (falls_short p.bytes) both in
      let short = and_parts (nat_lt 0 (length p.bytes)) (nat_lt (length p.bytes) 16 || nat_lt (length p.bytes) (stated p.bytes)) parts.1 in (
        parts.0,
        grind (arith, nat_tests, short.0),
        elim (or_cases (nat_lt (length p.bytes) 16) (nat_lt (length p.bytes) (stated p.bytes)) short.1) [
          | inl n ↦ inl (grind (arith, nat_tests, n))
          | inr n ↦ inr (grind (arith, nat_tests, n))
        ],
      )
]

-- ---- and when it is

pub cut_by : (alone : Bool) (p : Captured) → nat_lt (length p.bytes) p.original ≡ true → is_cut alone p ≡ true
cut_by alone p e = ap (λ (v : Bool). v || (alone && falls_short p.bytes)) e

or_true : (a b : Bool) → b ≡ true → (a || b) ≡ true
or_true true b e = refl
or_true false b e = e

pub short_by : (alone : Bool) (p : Captured) → alone ≡ true → 0 < length p.bytes → (length p.bytes < 16) ⊎ (length p.bytes < stated p.bytes) → is_cut alone p ≡ true
short_by alone p is some less =
    let few : (nat_lt (length p.bytes) 16 || nat_lt (length p.bytes) (stated p.bytes)) ≡ true = elim less [
      | inl n ↦ ap (λ (v : Bool). v || nat_lt (length p.bytes) (stated p.bytes)) (lt_true (length p.bytes) 16 n)
      | inr n ↦ or_true (nat_lt (length p.bytes) 16) _ (lt_true (length p.bytes) (stated p.bytes) n)
    ] in
    let there = lt_true 0 (length p.bytes) some in
    or_true (nat_lt (length p.bytes) p.original) _ (ap (λ (v : Bool). v && falls_short p.bytes) is ∙ ap (λ (v : Bool). v && (nat_lt (length p.bytes) 16 || nat_lt (length p.bytes) (stated p.bytes))) there ∙ few)

-- one of which nothing is asked
pub whole_by : (alone : Bool) (p : Captured) → p.original ≤ length p.bytes → (alone && nat_lt 0 (length p.bytes)) ≡ false → is_cut alone p ≡ false
whole_by alone p all other = ap (λ (v : Bool). v || (alone && falls_short p.bytes)) (lt_false (length p.bytes) p.original all) ∙ none alone (nat_lt 0 (length p.bytes)) _ other
  where
    none : (a b c : Bool) → (a && b) ≡ false → (a && (b && c)) ≡ false
    none false b c e = refl
    none true false c e = refl
    none true true c e = cc

pub fits_by : (alone : Bool) (p : Captured) → p.original ≤ length p.bytes → 16 ≤ length p.bytes → stated p.bytes ≤ length p.bytes → is_cut alone p ≡ false
fits_by alone p all some fits =
    let few = lt_false (length p.bytes) 16 some in
    let less = lt_false (length p.bytes) (stated p.bytes) fits in
    ap (λ (v : Bool). v || (alone && falls_short p.bytes)) (lt_false (length p.bytes) p.original all)
    ∙ ap (λ (v : Bool). alone && (nat_lt 0 (length p.bytes) && (v || nat_lt (length p.bytes) (stated p.bytes)))) few ∙ ap (λ (v : Bool). alone && (nat_lt 0 (length p.bytes) && v)) less ∙ none alone (nat_lt 0 (length p.bytes))
  where
    none : (a b : Bool) → (a && (b && false)) ≡ false
    none false b = refl
    none true false = refl
    none true true = refl
