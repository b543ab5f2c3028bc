use Rattle.std.proofs.Common.{arith}
use Rattle.std.proofs.lemmas.Map.Text.{text_keys}
use Rattle.dbus_calls.specs.Kept.{waiting}
use Rattle.dbus_calls.proofs.open_calls.OpenCalls.new.Goals as goal

pub returns : goal.returns
unfolding waiting
returns g c = λ caller serial. grind (arith, text_keys)
