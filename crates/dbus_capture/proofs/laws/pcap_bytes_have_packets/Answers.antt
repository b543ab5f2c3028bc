use Rattle.dbus_capture.proofs.PcapReads.{pcap_packet_of}
use Rattle.dbus_capture.proofs.laws.pcap_bytes_have_packets.Goals as goal

pub returns : goal.returns
returns c = pcap_packet_of
