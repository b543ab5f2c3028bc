-- Mechanisms in a row, and bytes that are text.
use Rattle.std.proofs.Common.{◌≡◌, ◌≢◌, ◌<◌, ◌||◌, ℕ, zero, suc, Bool, true, false, nat_lt, List, [], ◌∷◌, ◌++◌, codes, map, ap, ◌∙◌, refl, sym, arith, append_assoc, append-nil}
use Rattle.std.specs.Prelude.{Vec}
use Rattle.std.specs.Str.{IsAscii}
use Rattle.std.proofs.lemmas.Str.Ascii.{IsAscii-nil}
use Rattle.std.specs.List.{flat_map}
use Rattle.dbus_show_handshake.specs.ShownHandshakes.{has_other, offer, response_words, shown}

neither : (a b : Bool) → (a || b) ≡ false → (a ≡ false) × (b ≡ false)
neither false false e = (refl, refl)
neither false true e = absurd (cc)
neither true b e = absurd (cc)

low : (b : ℕ) → nat_lt 127 b ≡ false → b < 128
low b e = grind arith

ascii_more : (b : ℕ) (bs : List ℕ) → b < 128 → IsAscii bs → IsAscii (b ∷ bs)
ascii_more b bs l h zero = l
ascii_more b bs l h (suc i) = h i

pub ascii_by : (bs : List ℕ) → has_other bs ≡ false → IsAscii bs
ascii_by [] e = IsAscii-nil
ascii_by (b ∷ bs) e =
    let each = neither (nat_lt 127 b) (has_other bs) e in
    ascii_more b bs (low b each.0) (ascii_by bs each.1)

-- a response that is there
pub response_is : (bs : List ℕ) → bs ≢ [] → codes " as " ++ shown bs ≡ response_words bs
response_is [] some = absurd (some refl)
response_is (b ∷ bs) some = refl
