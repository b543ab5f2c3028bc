use Rattle.dbus_pcap.proofs.WrittenLaws.{written_read}
use Rattle.dbus_pcap.proofs.laws.written_is_read.Goals as goal

pub returns : goal.returns
returns c = written_read
