use Rattle.std.proofs.Common.{refl, arith}
use Rattle.dbus_walk.proofs.Containers.{array_stands}
use Rattle.dbus_swap.proofs.Leaves.{array_there_opens}
use Rattle.dbus_swap.proofs.byteswapping.ByteswapperVisitor.open_array.Goals as goal

pub byteswap_4-requires : goal.byteswap_4-requires
byteswap_4-requires c = let p = array_stands c.requires.stands.2 c.requires.code in omega (arith, p.inside, c.requires.begins, c.requires.ready)

pub returns-clause-takes : goal.returns-clause-takes
returns-clause-takes c = λ v rest s. record { same = refl; replaced = array_there_opens s c.args.start c.args.self.now.out.now c.byteswap_4.new.out c.requires.code c.requires.begins c.byteswap_4.ensures }
