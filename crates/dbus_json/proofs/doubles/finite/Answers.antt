use Rattle.std.proofs.Common.{◌∙◌}
use Rattle.std.proofs.lemmas.Bool.{le-ltb}
use Rattle.std.proofs.lemmas.Float.{T_from_false}
use Rattle.std.specs.Float.{binary64}
use lib.Ieee.Bits.{nan_bits_above}
use Rattle.dbus_json.proofs.Floats.{above_is_none}
use Rattle.dbus_json.proofs.doubles.finite.Goals as goal

pub returns-then-bits-gt-INFINITY : goal.returns-then-bits-gt-INFINITY
returns-then-bits-gt-INFINITY c = above_is_none c.args.bits c.if-bits-gt-INFINITY.true

pub float_from_bits-number : goal.float_from_bits-number
float_from_bits-number c = T_from_false _ (nan_bits_above binary64 c.args.bits ∙ le-ltb _ _ c.if-bits-gt-INFINITY.false)
