use Rattle.std.proofs.Common.{◌≡◌, ◌-◌}
use Rattle.dbus_stream.specs.Packets.{KeepsPackets}
use Rattle.dbus_stream.specs.Reading.{source_of}
use Rattle.dbus_stream.proofs.PacketPassing.{HasPassed}
use Rattle.dbus_stream.proofs.reader.Reader.read_past.Given as goal

abbrev pub invariant-reading : goal.invariant-reading
invariant-reading g l =
    HasPassed g.T.Taker.known g.R.Source.left g.R.Source.calls g.R.Source.packets g.R.Source.packet l.number l.fn.self l.self
    × (g.R.Source.failures (source_of l.self) ≡ g.R.Source.failures (source_of l.fn.self))
    × (g.R.Source.reference (source_of l.self) ≡ g.R.Source.reference (source_of l.fn.self))
    × KeepsPackets g.R.Source.packets g.R.Source.packet l.fn.self l.self

abbrev pub decreases-reading : goal.decreases-reading
decreases-reading g l = l.self.most_reads - l.self.reads
