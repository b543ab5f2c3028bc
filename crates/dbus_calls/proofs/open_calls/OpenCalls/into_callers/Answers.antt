use Rattle.std.proofs.Common.{refl}
use Rattle.dbus_calls.specs.Kept.{waiting}
use Rattle.dbus_calls.proofs.open_calls.OpenCalls.into_callers.Goals as goal

pub returns : goal.returns
unfolding waiting
returns g c = λ d s. refl
