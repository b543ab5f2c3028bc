-- Which floats are finite, and which numbers are written as they are shown.
use Rattle.std.proofs.Common.{◌≡◌, ℕ, ◌%◌, ◌^◌, ◌<◌, Bool, true, false, cond, ltb, from_bits, refl, sym, ap, ◌∙◌}
use Rattle.std.proofs.lemmas.Bool.{lt-ltb}
use Rattle.std.specs.Float.{Float, binary64, float_is_finite, nan, inf, fin}
use lib.Ieee.{is_nan}
use lib.Ieee.Bits.{nan_bits_is, nan_bits_above}
use Rattle.dbus_texts.specs.Types.{NumberCode, BYTE, BOOLEAN, INT16, UINT16, INT32, UINT32, INT64, UINT64, DOUBLE, UNIX_FD, number_code}
use Rattle.dbus_show.specs.ShownValues.{number_text}
use Rattle.dbus_json.specs.declared.integers.Integers.{Integers}
use Rattle.dbus_json.specs.declared.integers.Integers.TheVariants.{Safe}
use Rattle.dbus_json.specs.JsonIntegers.{may_be_number, wide_size}
use Rattle.dbus_json.specs.JsonValues.{IsNumber, plain}

nan_above : (bits : ℕ) → is_nan (from_bits binary64 bits) ≡ ltb 0x7ff0_0000_0000_0000 (bits % 2 ^ 63)
nan_above bits = sym (nan_bits_is binary64 bits) ∙ nan_bits_above binary64 bits

not_finite : (x : Float) → is_nan x ≡ true → float_is_finite x ≡ true → ⊥
unfolding float_is_finite is_nan
not_finite nan h e = cc
not_finite (inf s) h e = cc
not_finite (fin s m e) h is = cc

pub above_is_none : (bits : ℕ) → 0x7ff0_0000_0000_0000 < bits % 2 ^ 63 → float_is_finite (from_bits binary64 bits) ≡ true → ⊥
above_is_none bits above = not_finite (from_bits binary64 bits) (nan_above bits ∙ lt-ltb _ _ above)

-- a number that may be one is written as it is shown
pub shown_number : (integers : Integers) (k : NumberCode) (n : ℕ) → (number_code k ≡ 100 → ⊥) → may_be_number integers (wide_size k n) ≡ true → IsNumber integers k n (number_text k n)
shown_number integers BYTE n h may = refl
shown_number integers BOOLEAN n h may = refl
shown_number integers INT16 n h may = refl
shown_number integers UINT16 n h may = refl
shown_number integers INT32 n h may = refl
shown_number integers UINT32 n h may = refl
shown_number integers INT64 n h may = sym (ap (λ (b : Bool). cond b (number_text INT64 n) (plain (number_text INT64 n))) may)
shown_number integers UINT64 n h may = sym (ap (λ (b : Bool). cond b (number_text UINT64 n) (plain (number_text UINT64 n))) may)
shown_number integers DOUBLE n h may = absurd (h refl)
shown_number integers UNIX_FD n h may = refl

small : may_be_number Safe 0 ≡ false → ⊥
small may = cc

-- one that may not is an integer of 64 bits
pub quoted_number : (k : NumberCode) (n : ℕ) → may_be_number Safe (wide_size k n) ≡ false → IsNumber Safe k n (plain (number_text k n))
quoted_number INT64 n may = sym (ap (λ (b : Bool). cond b (number_text INT64 n) (plain (number_text INT64 n))) may)
quoted_number UINT64 n may = sym (ap (λ (b : Bool). cond b (number_text UINT64 n) (plain (number_text UINT64 n))) may)
quoted_number k n may = absurd (small may)
