use Rattle.std.proofs.Common.{refl}
use Rattle.dbus_names.specs.Kept.{state_of}
use Rattle.dbus_names.proofs.names.Names.owners.Goals as goal

pub returns : goal.returns
unfolding state_of
returns c = refl
