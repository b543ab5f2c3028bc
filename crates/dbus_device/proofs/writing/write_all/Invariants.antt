use Rattle.std.proofs.Common.{◌≡◌, length}
use Rattle.dbus_device.proofs.WriteSteps.{WritesUpTo}
use Rattle.dbus_device.proofs.writing.write_all.Given as goal

abbrev pub invariant-writing : goal.invariant-writing
invariant-writing g l =
    WritesUpTo g.W.Sink.held g.W.Sink.failures l.fn.sink l.bytes l.rest l.sink × (g.W.Sink.reference l.sink ≡ g.W.Sink.reference l.fn.sink)

abbrev pub decreases-writing : goal.decreases-writing
decreases-writing g l = length l.rest
