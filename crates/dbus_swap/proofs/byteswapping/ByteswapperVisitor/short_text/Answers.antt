use Rattle.std.proofs.Common.{refl}
use Rattle.dbus_swap.proofs.Leaves.{short_stays}
use Rattle.dbus_swap.proofs.byteswapping.ByteswapperVisitor.short_text.Goals as goal

pub returns-clause-takes : goal.returns-clause-takes
returns-clause-takes c = λ v rest s. record { same = refl; replaced = short_stays s c.args.self.now.out.now c.requires.code }
