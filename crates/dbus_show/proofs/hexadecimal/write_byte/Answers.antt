use Rattle.std.proofs.Common.{List, ℕ, [], ◌∷◌, sym, subst, ◌∙◌}
use Rattle.std.specs.Prelude.{IsUtf8}
use Rattle.std.proofs.lemmas.Str.{IsUtf8-from_ascii}
use Rattle.hex.proofs.HexLemmas.{IsAscii-encode_with}
use Rattle.hex.specs.Hex.{lower_digits}
use Rattle.dbus_show.proofs.EscapedText.{lower_ascii}
use Rattle.dbus_show.proofs.HexBlocks.{byte_digits}
use Rattle.dbus_show.proofs.hexadecimal.write_byte.Goals as goal

pub from_utf8_unchecked-requires : goal.from_utf8_unchecked-requires
from_utf8_unchecked-requires g c = subst IsUtf8 (byte_digits c.args.byte) (IsUtf8-from_ascii _ (IsAscii-encode_with lower_digits (c.args.byte ∷ []) lower_ascii))

pub returns : goal.returns
returns g c = subst (λ (s : List ℕ). g.D.Draft.gains c.args.draft.now s c.push_str.new.self) (c.from_utf8_unchecked.ensures ∙ sym (byte_digits c.args.byte)) c.push_str.ensures
