use Rattle.std.proofs.Common.{◌≡◌, ◌-◌, ◌^◌, List, ℕ, false}
use Rattle.dbus_lines.specs.LineReading.{Keeps, source_of}
use Rattle.cli_encode.proofs.GoSteps.{HasEncoded}
use Rattle.cli_encode.proofs.going.encode_all.Given as goal

abbrev pub invariant-lines : goal.invariant-lines
invariant-lines g l =
    ((kept : List ℕ) × Keeps l.lines kept × HasEncoded g.R.Source.left g.R.Source.calls g.R.Source.failures g.R.Source.packets g.W.Sink.held g.W.Sink.failures g.E.Sink.held g.E.Sink.failures
    l.fn.encoder.encoding l.fn.lines l.fn.first l.fn.second kept l.lines l.encoder l.first l.second)
    × (l.fn.encoder.encoding.keeps_going ≡ false → l.encoder.refused ≡ false)
    × (g.R.Source.reference (source_of l.lines) ≡ g.R.Source.reference (source_of l.fn.lines))

abbrev pub decreases-lines : goal.decreases-lines
decreases-lines g l = 2 ^ 49 - l.encoder.number
