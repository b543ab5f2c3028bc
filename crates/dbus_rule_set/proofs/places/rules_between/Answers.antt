use Rattle.dbus_rule_set.proofs.Orders.{runs_forward}
use Rattle.dbus_rule_set.proofs.places.rules_between.Goals as goal

pub range-requires : goal.range-requires
range-requires g c = runs_forward c.args.kind c.args.hash c.args.end_kind c.args.end_hash c.requires
