use Rattle.std.proofs.Common.{arith}
use Rattle.std.proofs.lemmas.Map.Text.{text_keys}
use Rattle.dbus_calls.specs.Kept.{waiting}
use Rattle.dbus_calls.proofs.open_calls.OpenCalls.get.Goals as goal

pub returns-in-Some : goal.returns-in-Some
unfolding waiting
returns-in-Some g c = grind (arith, text_keys)

pub returns-in-None : goal.returns-in-None
unfolding waiting
returns-in-None g c = grind (arith, text_keys)
