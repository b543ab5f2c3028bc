use Rattle.std.proofs.Common.{arith}
use Rattle.std.proofs.lemmas.Map.Text.{text_keys}
use Rattle.dbus_calls.specs.Kept.{waiting}
use Rattle.dbus_calls.proofs.open_calls.OpenCalls.close_all.Goals as goal

pub returns-clause-closed : goal.returns-clause-closed
unfolding waiting
returns-clause-closed g c = λ s. grind (arith, text_keys)

pub returns-clause-left : goal.returns-clause-left
unfolding waiting
returns-clause-left g c = λ d s. grind (arith, text_keys)
