use Rattle.dbus_value_checker.proofs.Calls.{opens_err}
use Rattle.dbus_value_checker.proofs.values.ValueChecker.item.Goals as goal

pub returns-in-Err-clause-moves : goal.returns-in-Err-clause-moves
returns-in-Err-clause-moves c = λ answer r. opens_err c.args.self.now c.open_structs.new.self c.args.bytes.now c.in-Err.stop answer (c.in-Err.ensures.opens answer r)

pub returns-in-Err-clause-short : goal.returns-in-Err-clause-short
returns-in-Err-clause-short c = λ e. absurd (c.in-Err.ensures.decided e)
