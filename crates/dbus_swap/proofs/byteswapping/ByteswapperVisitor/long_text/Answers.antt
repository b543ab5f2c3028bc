use Rattle.std.proofs.Common.{refl, arith}
use Rattle.dbus_walk.proofs.Parts.{long_stands}
use Rattle.dbus_swap.proofs.Leaves.{text_there_byteswaps}
use Rattle.dbus_swap.proofs.byteswapping.ByteswapperVisitor.long_text.Goals as goal

pub byteswap_4-requires : goal.byteswap_4-requires
byteswap_4-requires c = let p = long_stands c.requires.stands.2 c.requires.code in omega (arith, p.inside, c.requires.begins, c.requires.ready)

pub returns-clause-takes : goal.returns-clause-takes
returns-clause-takes c = λ v rest s. record { same = refl; replaced = text_there_byteswaps s c.args.start c.args.self.now.out.now c.byteswap_4.new.out c.requires.code c.requires.begins c.byteswap_4.ensures }
