use Rattle.dbus_capture.proofs.PacketSteps.{stream_packets}
use Rattle.dbus_capture.proofs.laws.streams_have_no_packets.Goals as goal

pub returns : goal.returns
returns c = stream_packets
