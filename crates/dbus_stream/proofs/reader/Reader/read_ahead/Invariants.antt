use Rattle.std.proofs.Common.{◌≡◌, ◌-◌, ◌≤◌, length, take}
use Rattle.dbus_stream.specs.LookingAhead.{Meets}
use Rattle.dbus_stream.specs.Packets.{KeepsPackets}
use Rattle.dbus_stream.specs.Reading.{source_of}
use Rattle.dbus_stream.proofs.AheadSteps.{HasLooked}
use Rattle.dbus_stream.proofs.reader.Reader.read_ahead.Given as goal

abbrev pub invariant-reading : goal.invariant-reading
invariant-reading g l =
    HasLooked g.T.Taker.known g.R.Source.left g.R.Source.calls l.behind l.far l.fn.ahead.items l.fn.self l.ahead.items l.self
    × (g.R.Source.failures (source_of l.self) ≡ g.R.Source.failures (source_of l.fn.self))
    × (g.R.Source.reference (source_of l.self) ≡ g.R.Source.reference (source_of l.fn.self))
    × KeepsPackets g.R.Source.packets g.R.Source.packet l.fn.self l.self
    × (Meets l.behind (take l.before l.ahead.items) → ⊥)

abbrev pub decreases-reading : goal.decreases-reading
decreases-reading g l = l.self.most_reads - l.self.reads
