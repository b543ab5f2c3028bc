use Rattle.dbus_pcap.proofs.WrittenLaws.{times_read}
use Rattle.dbus_pcap.proofs.laws.written_times_are_read.Goals as goal

pub returns : goal.returns
returns c = times_read
