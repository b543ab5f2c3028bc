use Rattle.std.proofs.Common.{arith}
use Rattle.dbus_value_model.proofs.Numbers.{bytes_hold}
use Rattle.dbus_value_model.proofs.ranges.bytes_in_range.Goals as goal

pub returns : goal.returns
returns c = bytes_hold c.args.bytes.now (λ i l. omega (arith, c.type_inv.bytes i))
