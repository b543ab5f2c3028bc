use Rattle.std.proofs.Common.{ℕ, zero, suc, ◌<◌, [], ◌∷◌}
use Rattle.std.specs.Str.{IsAscii}
use Rattle.std.proofs.lemmas.Str.{IsUtf8-from_ascii}
use Rattle.std.proofs.lemmas.Str.Ascii.{IsAscii-nil}
use Rattle.dbus_show.proofs.draft.Draft.push_code.Goals as goal

one_ascii : (code : ℕ) → code < 128 → IsAscii (code ∷ [])
one_ascii code h zero = h
one_ascii code h (suc i) = IsAscii-nil i

pub from_utf8_unchecked-requires : goal.from_utf8_unchecked-requires
from_utf8_unchecked-requires g c = IsUtf8-from_ascii (c.args.code ∷ []) (one_ascii c.args.code c.requires)
