use Rattle.std.proofs.lemmas.Str.{IsUtf8-from_ascii}
use Rattle.dbus_value_text.proofs.texts.write_types.Goals as goal

pub from_utf8_unchecked-requires : goal.from_utf8_unchecked-requires
from_utf8_unchecked-requires g c = IsUtf8-from_ascii c.args.types.now c.requires
