use Rattle.dbus_texts.proofs.LinkedBlocks.{links_of_mask}
use Rattle.dbus_texts.proofs.name_blocks.are_linked.Goals as goal

pub returns : goal.returns
returns c = links_of_mask c.args.separator c.args.letters c.extra.result c.first_digits.result c.args.lane c.args.before c.args.block c.extra.ensures c.first_digits.ensures c.fits-before.0 c.fits-block.0 c.fits-block.1
