use Rattle.std.proofs.Common.{sym, ◌∙◌, arith}
use Rattle.dbus_header.proofs.Whole.{order_done}
use Rattle.dbus_header.proofs.fixed_header.read_order.Goals as goal

pub returns-in-Some-clause-gives : goal.returns-in-Some-clause-gives
returns-in-Some-clause-gives c = order_done c.args.bytes.now c.in-Some.order (grind arith) (sym c.from.ensures ∙ c.in-Some.ensures)
