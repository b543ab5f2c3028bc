use Rattle.dbus_stream.specs.RawReading.{kept}
use Rattle.dbus_stream.proofs.FaultPackets.{ends_in, raw_read, refused_in, shown_byte}
use Rattle.dbus_stream.proofs.laws.packets_of_faults.Goals as goal

pub returns-clause-refused : goal.returns-clause-refused
returns-clause-refused g c = λ r all limits fault has refused last. refused_in limits g.R.Source.packets g.R.Source.packet all r.reader has (kept r) (raw_read r) fault refused last

pub returns-clause-ended : goal.returns-clause-ended
returns-clause-ended g c = λ r all limits has some partial. ends_in limits g.R.Source.packets g.R.Source.packet all r.reader has (kept r) (raw_read r) some partial

pub returns-clause-shown : goal.returns-clause-shown
returns-clause-shown g c = λ all limits offset bytes packet i fault s there refused. shown_byte limits all offset bytes packet i fault s there refused
