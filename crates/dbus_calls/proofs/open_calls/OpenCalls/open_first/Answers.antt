use Rattle.std.proofs.Common.{arith}
use Rattle.std.proofs.lemmas.Map.Text.{text_keys}
use Rattle.dbus_calls.specs.Kept.{waiting}
use Rattle.dbus_calls.proofs.open_calls.OpenCalls.open_first.Goals as goal

pub returns-in-Ok-clause-opens : goal.returns-in-Ok-clause-opens
unfolding waiting
returns-in-Ok-clause-opens g c = λ d s. grind (arith, text_keys)

pub returns-clause-unchanged : goal.returns-clause-unchanged
unfolding waiting
returns-clause-unchanged g c = λ d s. grind (arith, text_keys)
