use Rattle.std.proofs.Common.{◌≡◌, ◌-◌, ◌≤◌, List, ℕ}
use Rattle.dbus_stream.specs.Dropping.{HasDropped}
use Rattle.dbus_stream.specs.Packets.{KeepsPackets}
use Rattle.dbus_stream.specs.Reading.{done_of, source_of}
use Rattle.dbus_stream.proofs.PassSteps.{HasSkipped}
use Rattle.dbus_stream.proofs.reader.Reader.pass_over.Given as goal

abbrev pub invariant-reading : goal.invariant-reading
invariant-reading g l =
    ((gone : List ℕ) → HasDropped l.fn.refused gone → HasSkipped g.T.Taker.known l.limits gone g.R.Source.left g.R.Source.calls l.fn.self l.self l.refused)
    × (l.refused.dropped ≤ done_of l.self)
    × (g.R.Source.failures (source_of l.self) ≡ g.R.Source.failures (source_of l.fn.self))
    × (g.R.Source.reference (source_of l.self) ≡ g.R.Source.reference (source_of l.fn.self))
    × KeepsPackets g.R.Source.packets g.R.Source.packet l.fn.self l.self

abbrev pub decreases-reading : goal.decreases-reading
decreases-reading g l = l.self.most_reads - l.self.reads
