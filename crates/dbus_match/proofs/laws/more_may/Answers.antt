use Rattle.dbus_match.proofs.TakenFor.{more_may}
use Rattle.dbus_match.proofs.laws.more_may.Goals as goal

pub returns : goal.returns
returns c = more_may
