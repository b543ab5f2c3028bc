use Rattle.dbus_marshal.proofs.SizeLaws.{size_exact}
use Rattle.dbus_marshal.proofs.size_laws.size_ends.Goals as goal

pub returns : goal.returns
returns c = size_exact
