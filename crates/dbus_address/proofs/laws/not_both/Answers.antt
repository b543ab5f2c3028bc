use Rattle.dbus_address.proofs.FirstFlaw.{not_both}
use Rattle.dbus_address.proofs.laws.not_both.Goals as goal

pub returns : goal.returns
returns c = not_both
