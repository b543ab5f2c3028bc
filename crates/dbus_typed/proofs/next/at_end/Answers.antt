use Rattle.std.proofs.Common.{refl, sym}
use Rattle.dbus_typed.proofs.Nexts.{some_code, no_code}
use Rattle.dbus_typed.proofs.next.at_end.Goals as goal

pub returns-then-is_some : goal.returns-then-is_some
returns-then-is_some g c = λ xs rest l. some_code c.first_code.result xs (sym c.if-is_some.ensures) (c.first_code.ensures xs rest l)

pub returns : goal.returns
returns g c = λ xs rest l. (refl, no_code c.first_code.result xs (sym c.if-is_some.ensures) (c.first_code.ensures xs rest l))
