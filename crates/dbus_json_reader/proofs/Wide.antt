-- Numbers that are integers of 64 bits, and may be none.
use Rattle.std.proofs.Common.{◌≡◌, ℕ, ◌^◌, ◌<◌, ℤ, FitsSigned, false, List, inl, inr, decimal, unsigned_abs, sym, ap, ◌∙◌}
use Rattle.std.proofs.lemmas.Bool.{true≢false}
use Rattle.std.proofs.lemmas.Fmt.{decimal_injective, signed_decimal_injective}
use Rattle.std.specs.Fmt.{signed_decimal}
use Rattle.std.specs.Int.{w64}
use Rattle.json.specs.Json.{Json, number, string}
use Rattle.dbus_json.specs.declared.integers.Integers.{Integers}
use Rattle.dbus_json.specs.JsonIntegers.{may_be_number}
use Rattle.dbus_json_reader.specs.JsonNumbers.{SpellsWide}

number_texts : (s t : List ℕ) → number s ≡ number t → s ≡ t
number_texts s t e = cc

not_both : (s t : List ℕ) → number s ≡ string t → ⊥
not_both s t e = cc

-- one that may not is no other
pub no_unsigned : (integers : Integers) (m n : ℕ) (text : List ℕ) (j : Json) → j ≡ number text → text ≡ decimal m → m < 2 ^ 64 → may_be_number integers m ≡ false → n < 2 ^ 64 → SpellsWide integers n (decimal n) j → ⊥
no_unsigned integers m n text j seen is small may few (inl a) =
    let same : m ≡ n = decimal_injective m n small few (sym is ∙ number_texts text (decimal n) (sym seen ∙ a.1)) in
    true≢false (sym a.0 ∙ ap (may_be_number integers) (sym same) ∙ may)
no_unsigned integers m n text j seen is small may few (inr a) = not_both text (decimal n) (sym seen ∙ a)

pub no_signed : (integers : Integers) (y z : ℤ) (text : List ℕ) (j : Json) → j ≡ number text → text ≡ signed_decimal y → FitsSigned w64 y → may_be_number integers (unsigned_abs y) ≡ false → FitsSigned w64 z
    → SpellsWide integers (unsigned_abs z) (signed_decimal z) j → ⊥
no_signed integers y z text j seen is fits may few (inl a) =
    let same : y ≡ z = signed_decimal_injective y z fits.sfits few.sfits (sym is ∙ number_texts text (signed_decimal z) (sym seen ∙ a.1)) in
    true≢false (sym a.0 ∙ ap (λ (x : ℤ). may_be_number integers (unsigned_abs x)) (sym same) ∙ may)
no_signed integers y z text j seen is fits may few (inr a) = not_both text (signed_decimal z) (sym seen ∙ a)
