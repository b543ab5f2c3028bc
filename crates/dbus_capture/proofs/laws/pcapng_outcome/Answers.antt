use Rattle.dbus_capture.proofs.Outcomes.{pcapng_outcome}
use Rattle.dbus_capture.proofs.laws.pcapng_outcome.Goals as goal

pub returns : goal.returns
returns c = pcapng_outcome
