use Rattle.dbus_json_laws.proofs.Lexed.{lex_string}
use Rattle.dbus_json_laws.proofs.laws.texts_kept.Goals as goal

pub returns : goal.returns
returns c = lex_string
