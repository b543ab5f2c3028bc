use Rattle.dbus_show.proofs.LineFeeds.{none_in_value}
use Rattle.dbus_show.proofs.laws.one_line_for_a_value.Goals as goal

pub returns : goal.returns
returns c = none_in_value
