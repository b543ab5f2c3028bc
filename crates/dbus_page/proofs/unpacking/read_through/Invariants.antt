use Rattle.std.proofs.Common.{◌≡◌}
use Rattle.dbus_capture.specs.Captures.{input_of, left_of, packets_of, source_of}
use Rattle.dbus_page.proofs.FileSteps.{Ran}
use Rattle.dbus_page.proofs.PartSteps.{ReadsUpTo}
use Rattle.dbus_page.proofs.unpacking.read_through.Given as goal

abbrev pub invariant-loop-number : goal.invariant-loop-number
invariant-loop-number g l =
    let left = g.R.Source.left in
    let old = input_of l.fn.capture in
    let now = input_of l.capture in
    ReadsUpTo (left_of left) (packets_of left) old now l.room l.length l.parts l.number × Ran left old now
    × (g.R.Source.failures (source_of now) ≡ g.R.Source.failures (source_of old))
