-- Signed numbers that are narrowed.
use Rattle.std.proofs.Common.{◌≡◌, ◌^◌, ◌<◌, ℤ, FitsSigned, Result, Ok, Err, Option, Some, None, sym, ◌∙◌, subst}
use Rattle.std.specs.Fmt.{signed_decimal}
use Rattle.std.specs.Int.{Width, cast_signed, cast_unsigned}
use Rattle.std.specs.Result.{result_ok, OkIff}
use Rattle.std.proofs.lemmas.Fmt.{signed_decimal_injective}
use Rattle.std.proofs.lemmas.Int.{to_z-of_z}
use Rattle.json.specs.Json.{number}
use lib.Signed.{mag}

numbers_same : (y z : ℤ) → number (signed_decimal y) ≡ number (signed_decimal z) → signed_decimal y ≡ signed_decimal z
numbers_same y z e = cc

-- a number that is not narrowed is none of the width
pub none_narrow : {E : Type 0} (w u : Width) (y z : ℤ) (r : Result ℤ E) (o : Option ℤ) → OkIff r (FitsSigned w (cast_signed u (cast_unsigned u y))) (cast_signed u (cast_unsigned u y)) → o ≡ result_ok r → o ≡ None →
    FitsSigned u y → mag y < 2 ^ 63 → mag z < 2 ^ 63 → FitsSigned w z → number (signed_decimal y) ≡ number (signed_decimal z) → ⊥
none_narrow w u y z (Ok x) o h is none fits few less narrow e = let no : Some x ≡ None = sym is ∙ none in cc
none_narrow w u y z (Err x) o h is none fits few less narrow e =
    h (subst (FitsSigned w) (sym (signed_decimal_injective y z few less (numbers_same y z e)) ∙ sym (to_z-of_z u y fits)) narrow)
