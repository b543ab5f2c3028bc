use Rattle.std.proofs.Common.{◌≡◌, Err, ap, refl}
use Rattle.std.proofs.lemmas.Result.{IfErr-at_err}
use Rattle.dbus_json_lines.specs.declared.fault.NoMessage.{NoMessage}
use Rattle.dbus_c.proofs.from_json.bytes_of_line.Goals as goal

pub returns-in-Err-clause-refused : goal.returns-in-Err-clause-refused
returns-in-Err-clause-refused c = λ fault is. c.in-Err.ensures.refused fault (ap Err (IfErr-at_err (λ (why : NoMessage). c.in-Err.why ≡ why) is refl))
