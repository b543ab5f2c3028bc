use Rattle.std.proofs.Common.{◌≡◌, true}
use Rattle.dbus_capture.proofs.CaptureSteps.{Turns}
use Rattle.dbus_capture.proofs.input.Input.read_part.Given as goal

abbrev pub invariant-turns : goal.invariant-turns
invariant-turns g l = Turns g.R.Source.left g.R.Source.calls g.R.Source.failures l.turn l.fn.self l.self × (l.self.chosen ≡ true)
