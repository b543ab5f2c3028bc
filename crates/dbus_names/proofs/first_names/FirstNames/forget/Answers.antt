use Rattle.std.proofs.Common.{arith}
use Rattle.std.proofs.lemmas.Map.Text.{text_keys}
use Rattle.dbus_names.proofs.first_names.FirstNames.forget.Goals as goal

pub returns : goal.returns
returns c = λ u. grind (arith, text_keys)
