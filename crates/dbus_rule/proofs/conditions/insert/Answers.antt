use Rattle.std.proofs.Common.{ltb, arith}
use Rattle.std.proofs.lemmas.List.Sums.{prefix_len-le-length}
use Rattle.dbus_rule.specs.Keys.{rank}
use Rattle.dbus_rule.proofs.SortedConditions.{inserted_ok}
use Rattle.dbus_rule.proofs.conditions.insert.Goals as goal

pub insert-requires : goal.insert-requires
insert-requires g c =
    let h = prefix_len-le-length (λ d. ltb (rank d.key) (rank c.args.condition.key)) c.as_slice.result.now in
    omega (arith, h, c.place_of-place.ensures, c.as_slice.ensures.len)

pub returns : goal.returns
returns g c = inserted_ok c.insert.result c.args.condition c.args.conditions.now.items c.as_slice.result.now c.insert.new.self.items c.place_of-place.result c.as_slice.ensures.value c.place_of-place.ensures c.insert.ensures.items
