use Rattle.std.proofs.Common.{sym, ◌∙◌}
use Rattle.std.specs.Bool.{passes}
use lib.Ieee.{binary64}
use lib.Ieee.Bits.{of_bits-to_bits}
use Rattle.dbus_json_reader.proofs.doubles.finite_bits.Goals as goal

pub returns-then-is_finite-clause-some : goal.returns-then-is_finite-clause-some
returns-then-is_finite-clause-some c =
    (sym (of_bits-to_bits binary64 c.args.number (passes _ c.well_formed.0.1)), sym c.is_finite.ensures.value ∙ c.if-is_finite.true)
