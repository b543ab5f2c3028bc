use Rattle.std.proofs.Common.{arith}
use Rattle.std.proofs.lemmas.Map.Text.{text_keys}
use Rattle.dbus_calls.specs.Kept.{waiting}
use Rattle.dbus_calls.proofs.open_calls.OpenCalls.open.Goals as goal

pub returns-in_ok-before-in-Some-clause-opens : goal.returns-in_ok-before-in-Some-clause-opens
unfolding waiting
returns-in_ok-before-in-Some-clause-opens g c = λ d s. grind (arith, text_keys)

pub returns-in_ok-before-in-Some-clause-before : goal.returns-in_ok-before-in-Some-clause-before
unfolding waiting
returns-in_ok-before-in-Some-clause-before g c = grind (arith, text_keys)

pub returns-in_ok-open_first-in-None-clause-before : goal.returns-in_ok-open_first-in-None-clause-before
unfolding waiting
returns-in_ok-open_first-in-None-clause-before g c = grind (arith, text_keys)

pub returns-in_err-before-in-Some-clause-unchanged : goal.returns-in_err-before-in-Some-clause-unchanged
unfolding waiting
returns-in_err-before-in-Some-clause-unchanged g c = grind (arith, text_keys)
