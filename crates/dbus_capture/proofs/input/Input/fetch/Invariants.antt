use Rattle.dbus_capture.proofs.BeginSteps.{Fetched}
use Rattle.dbus_capture.proofs.input.Input.fetch.Given as goal

abbrev pub invariant-loop-number : goal.invariant-loop-number
invariant-loop-number g l = Fetched g.R.Source.left g.R.Source.calls g.R.Source.failures l.number l.fn.self l.self
