use Rattle.std.proofs.Common.{◌≡◌, ◌-◌, None, List, ℕ}
use Rattle.dbus_stream.specs.Packets.{KeepsPackets}
use Rattle.dbus_stream.specs.Reading.{source_of, stopped_of, Keeps}
use Rattle.dbus_stream.proofs.NextSteps.{HasRead}
use Rattle.dbus_stream.proofs.reader.Reader.next.Given as goal

abbrev pub invariant-reading : goal.invariant-reading
invariant-reading g l =
    ((w : List ℕ) → Keeps g.T.Taker.known l.fn.self w → HasRead g.T.Taker.known g.R.Source.left g.R.Source.calls w l.fn.self l.self)
    × (stopped_of l.self ≡ None)
    × (g.R.Source.failures (source_of l.self) ≡ g.R.Source.failures (source_of l.fn.self))
    × (g.R.Source.reference (source_of l.self) ≡ g.R.Source.reference (source_of l.fn.self))
    × KeepsPackets g.R.Source.packets g.R.Source.packet l.fn.self l.self

abbrev pub decreases-reading : goal.decreases-reading
decreases-reading g l = l.self.most_reads - l.self.reads
