use Rattle.dbus_show.proofs.HexBlocks.{high_ok, low_ok, block_digits}
use Rattle.dbus_show.proofs.hexadecimal.digits_of.Goals as goal

pub swizzle-high : goal.swizzle-high
swizzle-high c = high_ok c.args.block c.fits-block.0 c.fits-block.1

pub swizzle-low : goal.swizzle-low
swizzle-low c = low_ok c.args.block c.fits-block.0 c.fits-block.1

pub returns : goal.returns
returns c = block_digits c.args.block c.fits-block.0 c.fits-block.1
