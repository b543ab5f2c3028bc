-- Texts of numbers: each is of one number.
use Rattle.std.proofs.Common.{◌≡◌, ℕ, zero, suc, ◌-◌, ◌/◌, ◌^◌, ◌<◌, ◌≤◌, ℤ, pos, negsuc, Bool, true, cond, ltb, not, T, List, ◌∷◌, get_or, drop, inl, inr, codes, decimal, from_bits, refl, sym, ap, ◌∙◌, subst, arith}
use Rattle.std.proofs.lemmas.Bool.{cases_eq, cases_lt, lt-ltb, ne_eqb, le-ltb, true≢false}
use Rattle.std.proofs.lemmas.Fmt.{decimal_injective, first_decimal}
use Rattle.std.proofs.lemmas.Int.{of_z-to_z}
use Rattle.std.specs.Float.{Float, binary64, float_is_finite, nan, inf, fin}
use Rattle.std.specs.Fmt.{digits, signed_decimal}
use Rattle.std.specs.Int.{Width, cast_signed, cast_unsigned, w16, w32, w64}
use mir.Val.{bits, sel}
use lib.Ieee.{is_nan, to_bits}
use lib.Ieee.Bits.{to_bits-of_bits}
use Rattle.dbus_texts.specs.Types.{NumberCode, BYTE, BOOLEAN, INT16, UINT16, INT32, UINT32, INT64, UINT64, DOUBLE, UNIX_FD}
use Rattle.dbus_value_model.specs.declared.order.Order.TheVariants.{Big}
use Rattle.dbus_value_model.specs.ByteNumbers.{IsBytes}
use Rattle.dbus_value_model.specs.Bytes.{low_first, num}
use Rattle.dbus_value_model.specs.Values as values
use Rattle.dbus_value_model.proofs.Numbers.{IsBytes-reverse}
use Rattle.dbus_show.specs.ShownValues.{number_text}

pub same_head : (x y : ℕ) (s t : List ℕ) → x ∷ s ≡ y ∷ t → (x ≡ y) × (s ≡ t)
same_head x y s t e = (ap (λ (u : List ℕ). get_or u 0 0) e, ap (λ (u : List ℕ). drop 1 u) e)

-- ---- each text is of one number

zero_first : get_or (decimal 0) 0 0 ≡ 48
unfolding digits
zero_first = refl

-- no digits begin with a sign
no_minus : (n : ℕ) → n < 2 ^ 64 → (t : List ℕ) → decimal n ≡ 45 ∷ t → ⊥
no_minus zero h t e = let first : get_or (decimal 0) 0 0 ≡ 45 = ap (λ (s : List ℕ). get_or s 0 0) e in omega (arith, first, zero_first)
no_minus (suc n) h t e =
    let first : get_or (decimal (suc n)) 0 0 ≡ 45 = ap (λ (s : List ℕ). get_or s 0 0) e in
    let more = first_decimal (suc n) (omega arith) h in
    omega (arith, first, more)

-- its size fits into 64 bits
abbrev pub Fits64 : ℤ → Type 0
Fits64 (pos n) = n < 2 ^ 64
Fits64 (negsuc n) = suc n < 2 ^ 64

signed_same : (y z : ℤ) → Fits64 y → Fits64 z → signed_decimal y ≡ signed_decimal z → y ≡ z
signed_same (pos m) (pos n) h k e = ap pos (decimal_injective m n h k e)
signed_same (pos m) (negsuc n) h k e = absurd (no_minus m h (decimal (suc n)) e)
signed_same (negsuc m) (pos n) h k e = absurd (no_minus n k (decimal (suc m)) (sym e))
signed_same (negsuc m) (negsuc n) h k e =
    let same : suc m ≡ suc n = decimal_injective (suc m) (suc n) h k (same_head 45 45 (decimal (suc m)) (decimal (suc n)) e).1 in
    ap negsuc (omega (arith, same))

pub half_fits : (top half n : ℕ) → n < top → 0 < half → top ≤ 2 ^ 64 → Fits64 (sel (ltb n half) (pos n) (negsuc (top - suc n)))
half_fits top half n h some most =
    elim (cases_lt n half) [
      | inl lt ↦ subst (λ (b : Bool). Fits64 (sel b (pos n) (negsuc (top - suc n)))) (sym (lt-ltb n half lt)) (omega (arith, h, most))
      | inr le ↦ subst (λ (b : Bool). Fits64 (sel b (pos n) (negsuc (top - suc n)))) (sym (le-ltb n half le)) (omega (arith, h, le, some, most))
    ]

-- the number that a signed one is kept as
kept_same : (w : Width) (m n : ℕ) → m < 2 ^ bits w → n < 2 ^ bits w → Fits64 (cast_signed w m) → Fits64 (cast_signed w n) → signed_decimal (cast_signed w m) ≡ signed_decimal (cast_signed w n) → m ≡ n
kept_same w m n h k f g e = sym (of_z-to_z w m h) ∙ ap (cast_unsigned w) (signed_same (cast_signed w m) (cast_signed w n) f g e) ∙ of_z-to_z w n k

true_text : (n : ℕ) → (n ≡ 0 → ⊥) → number_text BOOLEAN n ≡ codes "true"
true_text n other = ap (λ (b : Bool). cond b (codes "false") (codes "true")) (ne_eqb n 0 other)

false_text : (n : ℕ) → n ≡ 0 → number_text BOOLEAN n ≡ codes "false"
false_text n is = ap (number_text BOOLEAN) is

not_both : codes "false" ≡ codes "true" → ⊥
not_both e = let first : 102 ≡ 116 = ap (λ (s : List ℕ). get_or s 0 0) e in omega (arith, first)

one : (n : ℕ) → n < 2 → (n ≡ 0 → ⊥) → n ≡ 1
one zero h other = absurd (other refl)
one (suc n) h other = omega (arith, h)

boolean_same : (m n : ℕ) → m < 2 → n < 2 → number_text BOOLEAN m ≡ number_text BOOLEAN n → m ≡ n
boolean_same m n h k e =
    elim (cases_eq m 0) [
      | inl a ↦ elim (cases_eq n 0) [
        | inl b ↦ a ∙ sym b
        | inr b ↦ absurd (not_both (sym (false_text m a) ∙ e ∙ true_text n b))
      ]
      | inr a ↦ elim (cases_eq n 0) [
        | inl b ↦ absurd (not_both (sym (false_text n b) ∙ sym e ∙ true_text m a))
        | inr b ↦ one m h a ∙ sym (one n k b)
      ]
    ]

-- which numbers are in decimal
pub coded_same : (k : NumberCode) → (k ≡ DOUBLE → ⊥) → (m n : ℕ) → values.IsNumber k m → values.IsNumber k n → number_text k m ≡ number_text k n → m ≡ n
coded_same BYTE other m n h k e = decimal_injective m n (omega (arith, h)) (omega (arith, k)) e
coded_same BOOLEAN other m n h k e = boolean_same m n h k e
coded_same INT16 other m n h k e = kept_same w16 m n h k (half_fits (2 ^ 16) (2 ^ 15) m h (omega arith) (omega arith)) (half_fits (2 ^ 16) (2 ^ 15) n k (omega arith) (omega arith)) e
coded_same UINT16 other m n h k e = decimal_injective m n (omega (arith, h)) (omega (arith, k)) e
coded_same INT32 other m n h k e = kept_same w32 m n h k (half_fits (2 ^ 32) (2 ^ 31) m h (omega arith) (omega arith)) (half_fits (2 ^ 32) (2 ^ 31) n k (omega arith) (omega arith)) e
coded_same UINT32 other m n h k e = decimal_injective m n (omega (arith, h)) (omega (arith, k)) e
coded_same INT64 other m n h k e = kept_same w64 m n h k (half_fits (2 ^ 64) (2 ^ 63) m h (omega arith) (omega arith)) (half_fits (2 ^ 64) (2 ^ 63) n k (omega arith) (omega arith)) e
coded_same UINT64 other m n h k e = decimal_injective m n h k e
coded_same DOUBLE other m n h k e = absurd (other refl)
coded_same UNIX_FD other m n h k e = decimal_injective m n (omega (arith, h)) (omega (arith, k)) e

-- ---- bytes and bits of numbers

low_bytes : (w n : ℕ) → IsBytes (low_first w n)
unfolding low_first
low_bytes zero n = tt
low_bytes (suc w) n = (omega arith, low_bytes w (n / 256))

pub num_bytes : (w n : ℕ) → IsBytes (num Big w n)
unfolding num
num_bytes w n = IsBytes-reverse (low_first w n) (low_bytes w n)

not_nan : (x : Float) → float_is_finite x ≡ true → T (not (is_nan x))
unfolding float_is_finite is_nan
not_nan nan e = absurd (true≢false (sym e))
not_nan (inf s) e = absurd (true≢false (sym e))
not_nan (fin s m x) e = tt

pub bits_same : (m n : ℕ) → m < 256 ^ 8 → n < 256 ^ 8 → float_is_finite (from_bits binary64 m) ≡ true → float_is_finite (from_bits binary64 n) ≡ true → from_bits binary64 m ≡ from_bits binary64 n → m ≡ n
bits_same m n h k f g e = sym (to_bits-of_bits binary64 m h (not_nan _ f)) ∙ ap (to_bits binary64) e ∙ to_bits-of_bits binary64 n k (not_nan _ g)
