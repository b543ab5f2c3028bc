-- Each finite float has a numeral that reads as it: `0.` with all its decimal digits, and a power
-- of ten.
use Rattle.std.proofs.Common.{◌≡◌, ℕ, zero, suc, ◌+◌, ◌-◌, ◌*◌, ◌/◌, ◌%◌, ◌^◌, ◌<◌, ◌≤◌, Bool, true, false, List, [], ◌∷◌, ◌++◌, length, Some, decimal, from_bits, refl, ap, ◌∙◌, subst, arith, true≢false, length-append, div-add-mod', div-lt_iff_lt-mul, mod-lt, leb}
use Rattle.std.proofs.lemmas.Fmt.{decimal_is_IsNumeral}
use Rattle.std.proofs.lemmas.Str.{digit_value_digit}
use Rattle.std.specs.Char.{digit_value}
use Rattle.std.proofs.lemmas.Float.Parse.{parse_float-text_of}
use Rattle.std.specs.Float.{float_is_finite}
use Rattle.std.specs.Float.Numeral.{Parts, nearest_float, text_of, IsWellFormed}
use Rattle.std.specs.Fmt.{sign_text}
use Rattle.std.specs.Str.Parse.{digits_value, AllDigits}
use native.Mathlib.Nat.{pow-suc, mul-le-mul_right, mul-lt-mul_of_pos_right, lt_of_lt_of_le}
use lib.Pow.{pow-add, pow_pos, pow_mono, shl_lt}
use lib.Ieee.{Format, binary32, binary64, prec, low, emax, hid, ones, top, round, of_bits, to_bits}
use lib.Ieee.Bits.{of_bits-to_bits, of_bits-fits, to_bits-lt}
use lib.Ieee.Scale.{round_same}
use Rattle.fast_float.specs.Rounding.{scaled_bits, IsNearestBits}
use Rattle.fast_float.proofs.DigitsLemmas.{digits_value-append}
use Rattle.fast_float.proofs.ExactLemmas.{ten_to_pos}
use Rattle.fast_float.proofs.Patterns.{shape}
use Rattle.fast_float.proofs.RoundingLemmas.{nearest_of_near}
use Rattle.fast_float.proofs.Rows.{AllDigits-append}
use Rattle.ryu.specs.Parse.{parse_float}
use Rattle.ryu.specs.Plain.{IsPlain, IsPlainNumber}
use Rattle.ryu.proofs.Signs.{parts, signed, finite_number}

-- ---- digits

-- the last k digits of n in decimal
abbrev last_digits : (k n : ℕ) → List ℕ
last_digits zero n = []
last_digits (suc k) n = last_digits k (n / 10) ++ (48 + n % 10) ∷ []

last_worth : (n : ℕ) → digit_value (48 + n % 10) ≡ n % 10
last_worth n = omega (arith, digit_value_digit (48 + n % 10) (omega arith))

digits_long : (k n : ℕ) → length (last_digits k n) ≡ k
digits_long zero n = refl
digits_long (suc k) n = omega (arith, length-append (last_digits k (n / 10)) ((48 + n % 10) ∷ []), digits_long k (n / 10))

digits_all : (k n : ℕ) → AllDigits 10 (last_digits k n)
digits_all zero n = tt
digits_all (suc k) n = AllDigits-append _ _ (digits_all k (n / 10)) (omega (arith, last_worth n), tt)

digits_worth : (k n : ℕ) → n < 10 ^ k → digits_value 10 (last_digits k n) ≡ n
digits_worth zero n h = omega (arith, h)
digits_worth (suc k) n h =
    let front = digits_worth k (n / 10) (omega (arith, h, pow-suc 10 k)) in
    omega (arith, digits_value-append (last_digits k (n / 10)) ((48 + n % 10) ∷ []), front, last_worth n)

-- ---- powers

ten_is : (k : ℕ) → 10 ^ k ≡ 5 ^ k * 2 ^ k
ten_is zero = refl
ten_is (suc k) = rw (pow-suc 10 k, pow-suc 5 k, pow-suc 2 k, ten_is k) (grind arith)

five_pos : (k : ℕ) → 0 < 5 ^ k
five_pos zero = omega arith
five_pos (suc k) = omega (arith, five_pos k, pow-suc 5 k)

-- w of 2 ^ -l has so many digits after the point
few_digits : (w l e : ℕ) → w < 2 ^ (l + e) → w * 5 ^ l < 10 ^ (l + e)
few_digits w l e h =
    let below : w * 5 ^ l < 2 ^ (l + e) * 5 ^ l = mul-lt-mul_of_pos_right h (five_pos l) in
    let some = five_pos e in
    let more : 1 * (2 ^ (l + e) * 5 ^ l) ≤ 5 ^ e * (2 ^ (l + e) * 5 ^ l) = mul-le-mul_right (2 ^ (l + e) * 5 ^ l) some in
    let all : 10 ^ (l + e) ≡ 5 ^ e * (2 ^ (l + e) * 5 ^ l) = rw (ten_is (l + e), pow-add 5 l e) (grind arith) in
    omega (arith, below, more, all)

same_worth : (w l e : ℕ) → w * 5 ^ l * 10 ^ e * 2 ^ l ≡ w * 10 ^ (l + e)
same_worth w l e = rw (pow-add 10 l e, ten_is l) (grind arith)

small_exponent : (f : Format) → suc (emax f) < 2 ^ 64
small_exponent binary32 = omega arith
small_exponent binary64 = omega arith

-- ---- the numeral

module _ (f : Format) (w : ℕ) where
  abbrev up : ℕ
  up = suc (emax f)

  abbrev digits : List ℕ
  digits = last_digits (low f + up) (w * 5 ^ low f)

  abbrev numeral : Parts
  numeral = record {
    whole = 48 ∷ [];
    point = true;
    fraction = digits;
    exponent_negative = false;
    exponent = decimal up;
    len = length (text_of (record { whole = 48 ∷ []; point = true; fraction = digits; exponent_negative = false; exponent = decimal up; len = 0 }));
  }

  numeral_well : IsWellFormed numeral
  numeral_well = record {
    whole_digits = (omega arith, tt);
    fraction_digits = digits_all (low f + up) (w * 5 ^ low f);
    exponent_digits = (decimal_is_IsNumeral up (small_exponent f)).0.1;
    no_point = λ e. absurd (true≢false e);
    no_exponent = λ e. refl;
    len_is = refl;
  }

  numeral_plain : IsPlain numeral
  numeral_plain = record {
    well_formed = numeral_well;
    whole = omega arith;
    no_leading_zero = λ e. refl;
    fraction = λ e. omega (arith, digits_long (low f + up) (w * 5 ^ low f));
    marked = λ e. absurd (true≢false e);
  }

  numeral_worth : w < 2 ^ (low f + up) → digits_value 10 (48 ∷ digits) ≡ w * 5 ^ low f
  numeral_worth h = omega (arith, digits_value-append (48 ∷ []) digits, digits_worth (low f + up) (w * 5 ^ low f) (few_digits w (low f) up h))

  -- it is w smallest floats
  numeral_nearest : (negative : Bool) → w < 2 ^ (low f + up) → nearest_float f negative numeral ≡ round f negative w (2 ^ low f)
  numeral_nearest negative h =
      let tens : digits_value 10 (decimal up) ≡ up = (decimal_is_IsNumeral up (small_exponent f)).1 in
      let places : length digits + 0 ≡ low f + up = omega (arith, digits_long (low f + up) (w * 5 ^ low f)) in
      rw (numeral_worth h, tens, places)
      (round_same f negative _ _ _ _ (ten_to_pos (low f + up)) (pow_pos (low f)) (same_worth w (low f) up))

-- ---- each float

-- the float of these bits is so many smallest floats
record IsUnits (f : Format) (bits : ℕ) : Type 0 where
  pub units : ℕ
  pub few : units < 2 ^ (low f + suc (emax f))
  pub near : IsNearestBits f units (2 ^ low f) bits

at_scale : (f : Format) (bits m k : ℕ) → m < 2 ^ prec f → (0 < k → hid f ≤ m) → k ≤ ones f - 2 → scaled_bits f m k ≡ bits → IsUnits f bits
at_scale f bits m k fits normal most same =
    let s = shape f in
    let u = 2 ^ low f * 2 ^ k in
    let n : m * 2 ^ k * 2 ^ low f ≡ m * u = grind arith in
    let some : 0 < u = omega (arith, pow_pos (low f + k), pow-add 2 (low f) k) in
    record {
      units = m * 2 ^ k;
      few = lt_of_lt_of_le (shl_lt {a = m} (prec f) k fits) (pow_mono (omega (arith, s.range)));
      near = subst (IsNearestBits f (m * 2 ^ k) (2 ^ low f)) same
          (nearest_of_near f (m * 2 ^ k) (2 ^ low f) m k (pow_pos (low f)) (omega arith) normal (λ p. rw n (mul-le-mul_right u (normal p))) (rw n (omega arith)) (rw n (omega arith)));
    }

at_fields : (f : Format) (bits q t : ℕ) → q * hid f + t ≡ bits → t < hid f → q < ones f → bits < ones f * hid f → IsUnits f bits
at_fields f bits zero t is part field h =
    let s = shape f in
    at_scale f bits t 0 (omega (arith, s.twice, s.some)) (λ p. absurd (omega arith)) (omega arith) (omega (arith, is, h))
at_fields f bits (suc j) t is part field h =
    let s = shape f in
    at_scale f bits (hid f + t) j (omega (arith, s.twice, s.some)) (λ p. omega arith) (omega arith) (omega (arith, is, h))

units_of : (f : Format) (bits : ℕ) → bits < ones f * hid f → IsUnits f bits
units_of f bits h =
    let some : 0 < hid f = omega (arith, (shape f).some) in
    at_fields f bits (bits / hid f) (bits % hid f) (div-add-mod' bits (hid f)) (mod-lt bits some) ((div-lt_iff_lt-mul some).1 h) h

-- a float that is finite has a numeral
pub some_text : (f : Format) (bits : ℕ) → float_is_finite (from_bits f bits) ≡ true → (text : List ℕ) × IsPlainNumber text × (parse_float f text ≡ Some (from_bits f bits))
some_text f bits finite =
    let x = from_bits f bits in
    let raw = to_bits f x in
    let split = parts f x raw (of_bits-to_bits f x (of_bits-fits f bits)) (to_bits-lt f x (of_bits-fits f bits)) (finite_number x finite) in
    let negative = leb (top f) raw in
    let size = raw % top f in
    let u = units_of f size (split.finite.0 finite) in
    let p = numeral f u.units in
    let text = sign_text negative ++ text_of p in (
      text,
      (negative, p, refl, numeral_plain f u.units),
      parse_float-text_of f negative p (numeral_well f u.units) (omega arith)
          ∙ ap Some (numeral_nearest f u.units negative u.few ∙ signed f x negative size u.units (2 ^ low f) split u.near.0),
    )
