use Rattle.std.proofs.Common.{refl}
use Rattle.dbus_c.specs.TextChecking.{bad}
use Rattle.dbus_c.proofs.texts.check_text.Goals as goal

pub returns-in-Some : goal.returns-in-Some
returns-in-Some c = bad c.in-Some.at (c.is_too_long.ensures.within c.if-is_too_long.false) c.in-Some.ensures.0 c.in-Some.ensures.1 refl refl
