use Rattle.std.proofs.Common.{inr, refl}
use Rattle.dbus_stream.proofs.seeking.looked_behind.Goals as goal

pub returns-in-None : goal.returns-in-None
returns-in-None c = inr (c.end_stated.ensures.none c.in-None.is, refl)
