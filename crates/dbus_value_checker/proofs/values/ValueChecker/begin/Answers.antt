use Rattle.std.proofs.Common.{refl, arith}
use Rattle.dbus_value_checker.specs.Suspended.{done}
use Rattle.dbus_value_checker.specs.Moves.{values_on}
use Rattle.dbus_value_checker.proofs.NextValues.{begun_goes}
use Rattle.dbus_value_checker.proofs.values.ValueChecker.begin.Goals as goal

pub next-requires : goal.next-requires
next-requires c =
    let r = c.requires in let a = c.args in
    record {
      valid = (
        values_on a.bounds a.order a.depth_left a.end r.types.0 done a.offset,
        begun_goes _ a.types.now a.depth_left r.types.0 done c.clear.ensures c.sign.ensures.text c.sign.ensures.lengths refl r.at_most (omega (arith, c.ranges.end)) r.few r.short r.types.1.0 r.types.1.1,
      );
    }

pub returns : goal.returns
returns c = λ ts last types complete.
    let r = c.requires in let a = c.args in
    c.next.ensures (values_on a.bounds a.order a.depth_left a.end ts last a.offset)
    (begun_goes _ a.types.now a.depth_left ts last c.clear.ensures c.sign.ensures.text c.sign.ensures.lengths refl r.at_most (omega (arith, c.ranges.end)) r.few r.short types complete)
