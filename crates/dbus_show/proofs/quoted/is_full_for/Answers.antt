use Rattle.dbus_show.specs.Escapes.{escaped}
use Rattle.dbus_show.proofs.EscapedUtf8.{escaped_utf8}
use Rattle.dbus_show.proofs.quoted.is_full_for.Goals as goal

pub returns : goal.returns
returns g c = λ full. c.is_full.ensures full (escaped c.args._escapes c.args._text.now) (escaped_utf8 c.args._escapes c.args._text.now c.utf8._text)
