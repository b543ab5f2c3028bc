use Rattle.std.proofs.Common.{refl}
use Rattle.dbus_swap.proofs.Leaves.{opens_so}
use Rattle.dbus_swap.proofs.byteswapping.ByteswapperVisitor.open.Goals as goal

pub returns-clause-takes : goal.returns-clause-takes
returns-clause-takes c = λ order at v is_of text begins. record { same = refl; replaced = opens_so c.args._kind order at v c.args.self.now.out.now c.requires.kind is_of }
