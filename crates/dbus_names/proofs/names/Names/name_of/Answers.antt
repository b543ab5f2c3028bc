use Rattle.dbus_names.specs.Kept.{state_of}
use Rattle.dbus_names.proofs.names.Names.name_of.Goals as goal

pub returns : goal.returns
unfolding state_of
returns c = c.of.ensures
