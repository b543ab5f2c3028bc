use Rattle.std.proofs.Common.{◌≡◌, ◌-◌, List, ℕ, false}
use Rattle.dbus_lines.specs.LineReading.{source_of, Keeps}
use Rattle.dbus_lines.proofs.ReadSteps.{HasRead}
use Rattle.dbus_lines.proofs.line_reader.LineReader.next.Given as goal

abbrev pub invariant-reading : goal.invariant-reading
invariant-reading g l =
    ((w : List ℕ) → Keeps l.fn.self w → HasRead g.R.Source.left g.R.Source.calls g.R.Source.failures w l.fn.self l.self)
    × (l.self.given ≡ false)
    × (g.R.Source.failures (source_of l.self) ≡ g.R.Source.failures (source_of l.fn.self))
    × (g.R.Source.reference (source_of l.self) ≡ g.R.Source.reference (source_of l.fn.self))

abbrev pub decreases-reading : goal.decreases-reading
decreases-reading g l = l.self.most_reads - l.self.reads
