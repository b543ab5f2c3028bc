use Rattle.std.proofs.Common.{ℕ, zero, suc, ◌<◌, [], ◌∷◌, arith}
use Rattle.std.specs.Str.{IsAscii}
use Rattle.std.proofs.lemmas.Str.{IsUtf8-from_ascii}
use Rattle.std.proofs.lemmas.Str.Ascii.{IsAscii-nil}
use Rattle.dbus_show_view.proofs.plain.write_code.Goals as goal

ascii_code : (code : ℕ) → code < 128 → IsAscii (code ∷ 58 ∷ [])
ascii_code code h zero = h
ascii_code code h (suc zero) = omega arith
ascii_code code h (suc (suc i)) = IsAscii-nil i

pub from_utf8_unchecked-requires : goal.from_utf8_unchecked-requires
from_utf8_unchecked-requires g c = IsUtf8-from_ascii (c.args.code ∷ 58 ∷ []) (ascii_code c.args.code c.requires)
