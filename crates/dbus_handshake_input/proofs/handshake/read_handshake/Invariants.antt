use Rattle.std.proofs.Common.{◌≡◌, false, Ok}
use Rattle.dbus_handshake_input.specs.Ahead.{source_of}
use Rattle.dbus_handshake_input.specs.Passing.{SeesMessages}
use Rattle.dbus_handshake_input.proofs.HandshakeSteps.{HeardLines}
use Rattle.dbus_handshake_input.proofs.handshake.read_handshake.Given as goal

abbrev pub invariant-lines : goal.invariant-lines
invariant-lines g l =
    HeardLines g.R.Source.left g.R.Source.calls g.R.Source.packets g.R.Source.packet g.V.LineVisitor.hears l.side l.fn.input l.input l.fn.visitor l.visitor l.count l.bytes l.accepted
    × (g.R.Source.failures (source_of l.input) ≡ g.R.Source.failures (source_of l.fn.input))
    × (g.R.Source.reference (source_of l.input) ≡ g.R.Source.reference (source_of l.fn.input))
    × SeesMessages g.R.Source.left l.accepted l.input (Ok false)
