use Rattle.std.proofs.Common.{refl, arith}
use Rattle.dbus_walk.proofs.Parts.{number_stands}
use Rattle.dbus_swap.proofs.Leaves.{number_there_byteswaps}
use Rattle.dbus_swap.proofs.byteswapping.ByteswapperVisitor.number.Goals as goal

pub byteswap_number-requires : goal.byteswap_number-requires
byteswap_number-requires c = let p = number_stands c.requires.stands.2 c.args.size c.requires.some c.requires.wide in omega (arith, p.inside, c.requires.begins, c.requires.ready)

pub returns-clause-takes : goal.returns-clause-takes
returns-clause-takes c = λ v rest s. record {
  same = refl;
  replaced = number_there_byteswaps s c.args.start c.args.self.now.out.now c.byteswap_number.new.out c.args.size c.requires.some c.requires.wide c.requires.begins c.byteswap_number.ensures;
}
