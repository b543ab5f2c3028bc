use Rattle.dbus_build.proofs.Built.{none_is_past}
use Rattle.dbus_build.proofs.within.keeps_indexes.Goals as goal

pub returns : goal.returns
returns g c = none_is_past _ _ c.first_index_past.result c.is_none.result c.first_index_past.ensures c.is_none.ensures
