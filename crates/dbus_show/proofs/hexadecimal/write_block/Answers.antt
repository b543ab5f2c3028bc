use Rattle.std.proofs.Common.{◌≡◌, ◌*◌, List, ℕ, length, take, sym, subst, ◌∙◌}
use Rattle.std.specs.Prelude.{IsUtf8}
use Rattle.std.proofs.lemmas.Str.{IsUtf8-from_ascii}
use Rattle.hex.proofs.HexLemmas.{IsAscii-encode_with}
use Rattle.hex.specs.Hex.{lower_digits, encode_lower}
use Rattle.dbus_show.proofs.EscapedText.{lower_ascii}
use Rattle.dbus_show.proofs.HexBlocks.{first_digits}
use Rattle.dbus_show.proofs.hexadecimal.write_block.Goals as goal

pub from_utf8_unchecked-requires : goal.from_utf8_unchecked-requires
from_utf8_unchecked-requires g c =
    let block = c.args.block.now in
    let is : take (2 * length block) c.digits_of-digits.result ≡ encode_lower block = first_digits block _ _ _ c.copy_bytes.ensures c.digits_of-digits.ensures in
    subst IsUtf8 (sym is) (IsUtf8-from_ascii _ (IsAscii-encode_with lower_digits block lower_ascii))

pub returns : goal.returns
returns g c =
    let is = first_digits c.args.block.now _ _ _ c.copy_bytes.ensures c.digits_of-digits.ensures in
    subst (λ (s : List ℕ). g.D.Draft.gains c.args.draft.now s c.push_str.new.self) (c.from_utf8_unchecked.ensures ∙ is) c.push_str.ensures
