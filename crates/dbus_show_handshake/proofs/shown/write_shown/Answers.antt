use Rattle.std.proofs.Common.{sym, ◌∙◌}
use Rattle.std.proofs.lemmas.Str.{IsUtf8-from_ascii}
use Rattle.dbus_show_handshake.proofs.Offers.{ascii_by}
use Rattle.dbus_show_handshake.proofs.shown.write_shown.Goals as goal

pub from_utf8_unchecked-requires : goal.from_utf8_unchecked-requires
from_utf8_unchecked-requires g c = IsUtf8-from_ascii c.args.bytes.now (ascii_by c.args.bytes.now (sym c.has_other.ensures ∙ c.if-has_other.false))
