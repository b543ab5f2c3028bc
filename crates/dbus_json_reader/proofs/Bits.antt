-- The bits of DOUBLEs, and their digits.
use Rattle.std.proofs.Common.{◌≡◌, ℕ, ◌*◌, List, length, true, false, Result, Ok, Err, Some, MatchResult, from_bits, sym, ap, ◌∙◌, arith}
use Rattle.std.specs.Float.{Float, binary64, float_is_finite}
use Rattle.std.specs.Int.{w64, from_be_bytes}
use Rattle.std.proofs.lemmas.Nat.{be_bytes_8}
use Rattle.fast_float.specs.Parse.{parse_float}
use Rattle.hex.specs.Hex.{decode_of, decode_sized}
use Rattle.hex.specs.declared.error.FromHexError.{FromHexError}
use Rattle.hex.proofs.HexLemmas.{decode_of-ok, decode_sized-ok, decode_sized-twice}
use Rattle.dbus_value_model.specs.declared.order.Order.TheVariants.{Big}
use Rattle.dbus_value_model.specs.Bytes.{num}
use Rattle.dbus_value_model.proofs.Numbers.{length-num, num_64_big}
use Rattle.dbus_json_reader.specs.JsonNumbers.{IsFinite, IsDigits}

-- what is decoded into eight bytes
pub digits_read : (text bytes : List ℕ) (n : ℕ) → decode_sized text 8 ≡ Ok bytes → n ≡ from_be_bytes w64 bytes → IsDigits n text
digits_read text bytes n sized is =
    let decoded : decode_of text ≡ Ok bytes = sym (decode_sized-twice text 8 (decode_sized-ok text 8 bytes sized)) ∙ sized in
    let whole = decode_of-ok text bytes decoded in
    let eight : length bytes ≡ 8 = omega (arith, whole.2, decode_sized-ok text 8 bytes sized) in
    decoded ∙ ap (λ (b : List ℕ). Ok b) (sym (be_bytes_8 bytes n eight whole.3 is) ∙ num_64_big n)

pub no_digits : (text : List ℕ) (e : FromHexError) (n : ℕ) → decode_sized text 8 ≡ Err e → IsDigits n text → ⊥
no_digits text e n sized is =
    let long : length text ≡ 2 * 8 = (decode_of-ok text (num Big 8 n) is).2 ∙ ap (λ (k : ℕ). 2 * k) (length-num Big 8 n) in
    let same = decode_sized-twice text 8 long in
    cc

-- what is parsed
pub finite_read : (text : List ℕ) (x : Float) (n : ℕ) → parse_float binary64 text ≡ Some x → x ≡ from_bits binary64 n → float_is_finite x ≡ true → IsFinite n text
finite_read text x n parsed is finite = (parsed ∙ ap (λ (y : Float). Some y) is, sym (ap float_is_finite is) ∙ finite)

pub not_finite : (text : List ℕ) (x : Float) (n : ℕ) → parse_float binary64 text ≡ Some x → float_is_finite x ≡ false → IsFinite n text → ⊥
not_finite text x n parsed infinite h =
    let same : x ≡ from_bits binary64 n = cc (parsed, h.0) in
    let finite : float_is_finite x ≡ true = ap float_is_finite same ∙ h.1 in
    cc

-- ---- as the code decodes

module _ (text : List ℕ) (room : ℕ) (eight : room ≡ 8) (r : Result (Unit {0}) FromHexError) (out : List ℕ) where
  abbrev Answers : Result (List ℕ) FromHexError → Type 0
  Answers d = MatchResult d (λ bytes. (r ≡ Ok tt) × (out ≡ bytes)) (λ e. r ≡ Err e)

  pub if_decoded : (n : ℕ) → (d : Result (List ℕ) FromHexError) → decode_sized text room ≡ d → Answers d → r ≡ Ok tt → n ≡ from_be_bytes w64 out → IsDigits n text
  if_decoded n (Ok bytes) is h ok number = digits_read text out n (ap (decode_sized text) (sym eight) ∙ is ∙ ap (λ (b : List ℕ). Ok b) (sym h.1)) number
  if_decoded n (Err e) is h ok number = absurd (let no : Err e ≡ Ok tt = sym h ∙ ok in cc)

  pub if_not_decoded : (e : FromHexError) (d : Result (List ℕ) FromHexError) → decode_sized text room ≡ d → Answers d → r ≡ Err e → (n : ℕ) → IsDigits n text → ⊥
  if_not_decoded e (Ok bytes) is h err n digits = let no : Ok tt ≡ Err e = sym h.0 ∙ err in cc
  if_not_decoded e (Err other) is h err n digits = no_digits text other n (ap (decode_sized text) (sym eight) ∙ is) digits
