use Rattle.std.proofs.Common.{arith}
use Rattle.dbus_json_reader.proofs.Decimals.{only_zero}
use Rattle.dbus_json_reader.proofs.integers.zero_in.Goals as goal

pub returns-clause-some : goal.returns-clause-some
returns-clause-some c = only_zero c.args.text.now c.requires.some (omega (arith, c.if-text-gt1.false)) c.requires.zero
