use Rattle.std.proofs.Common.{◌≡◌, ◌-◌}
use Rattle.dbus_auth_lines.specs.CutterStates.{cutter_state}
use Rattle.dbus_handshake_input.specs.Ahead.{source_of}
use Rattle.dbus_handshake_input.proofs.LineSteps.{HasPart}
use Rattle.dbus_handshake_input.proofs.lines.next_line.Given as goal

abbrev pub invariant-pieces : goal.invariant-pieces
invariant-pieces g l =
    HasPart g.R.Source.left g.R.Source.calls g.R.Source.packets g.R.Source.packet l.fn.input l.input (cutter_state l.cutter) l.size
    × (g.R.Source.failures (source_of l.input) ≡ g.R.Source.failures (source_of l.fn.input))
    × (g.R.Source.reference (source_of l.input) ≡ g.R.Source.reference (source_of l.fn.input))

abbrev pub decreases-pieces : goal.decreases-pieces
decreases-pieces g l = 16384 - l.size
