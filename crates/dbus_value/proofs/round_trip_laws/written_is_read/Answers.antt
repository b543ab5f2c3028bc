use Rattle.dbus_value.proofs.RoundTrip.{written_is_read}
use Rattle.dbus_value.proofs.round_trip_laws.written_is_read.Goals as goal

pub returns : goal.returns
returns g c = written_is_read
