use Rattle.dbus_show.proofs.FieldTexts.{one_for_each_line}
use Rattle.dbus_show.proofs.laws.one_line_for_each_value.Goals as goal

pub returns : goal.returns
returns c = one_for_each_line
