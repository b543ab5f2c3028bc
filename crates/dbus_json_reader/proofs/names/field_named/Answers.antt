use Rattle.std.proofs.Common.{arith}
use Rattle.dbus_json_reader.proofs.KnownNames.{known_codes}
use Rattle.dbus_json_reader.proofs.names.field_named.Goals as goal

pub returns-clause-none : goal.returns-clause-none
returns-clause-none c = λ none code known is. let k = known_codes code known in let low = k.0 in let high = k.1 in c.loop-code.invariant code low (omega (arith, high)) known is
