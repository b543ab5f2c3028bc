use Rattle.std.proofs.Common.{arith}
use Rattle.dbus_texts.proofs.WordBlocks.{plain_of_mask}
use Rattle.dbus_texts.proofs.ascii.is_plain.Goals as goal

pub returns : goal.returns
returns c = plain_of_mask 64 c.args.block (omega arith) c.fits-block.0 c.fits-block.1
