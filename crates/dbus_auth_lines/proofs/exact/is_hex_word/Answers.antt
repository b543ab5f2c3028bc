use Rattle.std.proofs.Common.{map, sym, ap, ◌∙◌}
use Rattle.std.specs.Prelude.{bytes_eq}
use Rattle.std.specs.Char.{to_ascii_lowercase}
use Rattle.dbus_auth_lines.proofs.ExactLines.{no_digits, some_digits}
use Rattle.dbus_auth_lines.proofs.exact.is_hex_word.Goals as goal

pub returns-then-is_empty : goal.returns-then-is_empty
returns-then-is_empty c bytes h =
    no_digits c.args.text.now c.args.digits.now bytes c.is_empty.result c.is_empty-then-is_empty.result c.is_empty.ensures c.if-is_empty.true c.is_empty-then-is_empty.ensures h

pub returns-in-None : goal.returns-in-None
returns-in-None c bytes h =
    sym (ap (bytes_eq c.args.text.now) (some_digits c.args.digits.now bytes c.is_empty.result c.is_empty.ensures c.if-is_empty.false h) ∙ c.in-None.ensures (map to_ascii_lowercase c.args.digits.now))
