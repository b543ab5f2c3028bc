use Rattle.std.proofs.Common.{arith}
use Rattle.dbus_texts.proofs.WordBlocks.{plain_from}
use Rattle.dbus_value_validator.proofs.plain.is_plain_from.Goals as goal

pub returns : goal.returns
returns c = plain_from 16 c.args.lane c.args.block (omega arith) c.fits-block.0 c.fits-block.1
