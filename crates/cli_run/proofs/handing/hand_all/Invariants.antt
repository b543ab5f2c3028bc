use Rattle.std.proofs.Common.{◌≡◌, ◌-◌, ◌^◌}
use Rattle.dbus_stream.specs.Gathering.{gathering}
use Rattle.dbus_stream.specs.RawReading.{KeepsPackets, done_of, kept, looked_of, source_of}
use Rattle.cli_run.specs.Onward.{HasKnownPackets}
use Rattle.cli_run.proofs.HandSteps.{HasHanded}
use Rattle.cli_run.proofs.handing.hand_all.Given as goal

abbrev pub invariant-messages : goal.invariant-messages
invariant-messages g l =
    HasHanded gathering g.R.Source.left g.R.Source.calls g.R.Source.failures g.V.MessageVisitor.takes g.V.MessageVisitor.full l.limits (kept l.fn.messages) l.before
    (HasKnownPackets g.R.Source.packets g.R.Source.packet l.fn.messages) l.count l.fn.messages.reader l.messages.reader (kept l.messages) l.fn.visitor l.visitor
    × (g.R.Source.reference (source_of l.messages) ≡ g.R.Source.reference (source_of l.fn.messages)) × KeepsPackets g.R.Source.packets g.R.Source.packet l.fn.messages l.messages
    × (looked_of l.messages ≡ looked_of l.fn.messages)

abbrev pub decreases-messages : goal.decreases-messages
decreases-messages g l = 2 ^ 50 - done_of l.messages
