use Rattle.std.proofs.Common.{arith}
use Rattle.dbus_value_checker.proofs.FrontSteps.{first_byte}
use Rattle.dbus_value_checker.proofs.fronts.byte.Goals as goal

pub returns : goal.returns
returns c = (omega (arith, c.in_ok-fixed.ensures), omega (arith, c.in_ok-fixed.ensures), λ order. first_byte order c.args.bytes.now (omega (arith, c.in_ok-fixed.ensures)))
