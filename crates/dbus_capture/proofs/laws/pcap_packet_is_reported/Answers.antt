use Rattle.dbus_capture.proofs.Leads.{reported_from}
use Rattle.dbus_capture.proofs.PcapReads.{first_of_pcap, file_read, pcap_begins}
use Rattle.dbus_capture.proofs.laws.pcap_packet_is_reported.Goals as goal

pub returns : goal.returns
returns c passes header packets packet front back f g captured fits whole e =
    reported_from (first_of_pcap passes header f packets) (file_read passes header f packets g captured) (pcap_begins passes header packets packet f g captured fits whole) front back e
