-- No JSON spells two values of one type; and what `json` writes of a DOUBLE spells it.
use Rattle.std.proofs.Common.{ℕ, zero, suc, ◌<◌, List, [], ◌∷◌, get_or, inl, inr, from_bits, arith}
use Rattle.std.proofs.lemmas.Bool.{cases_Bool}
use Rattle.std.specs.Float.{binary64, float_is_finite}
use Rattle.hex.specs.Hex.{encode_lower}
use Rattle.hex.proofs.HexLemmas.{decode_of-encode_lower}
use Rattle.dbus_value_model.specs.declared.order.Order.TheVariants.{Big}
use Rattle.dbus_value_model.specs.Bytes.{num}
use Rattle.dbus_value_model.specs.ByteNumbers.{IsBytes}
use Rattle.dbus_json_laws.specs.Reading.{IsOneValueEach, IsDoubleKept}
use Rattle.dbus_json_reader.proofs.OneValue.{one_value}
use Rattle.dbus_json_reader.proofs.NumberTexts.{num_bytes}

pub one_each : IsOneValueEach
one_each integers = one_value integers

-- ---- the text of a DOUBLE

pub each_byte : (bytes : List ℕ) → IsBytes bytes → (i : ℕ) → get_or bytes i 0 < 256
each_byte [] h i = omega arith
each_byte (b ∷ bytes) h zero = h.0
each_byte (b ∷ bytes) h (suc i) = each_byte bytes h.1 i

pub double_kept : IsDoubleKept
double_kept bits text is =
    elim (cases_Bool (float_is_finite (from_bits binary64 bits))) [
      | inl finite ↦ inl ((is.finite finite).1, finite)
      | inr other ↦ inr (encode_lower (num Big 8 bits), is.other other, decode_of-encode_lower (num Big 8 bits) (each_byte (num Big 8 bits) (num_bytes 8 bits)))
    ]
