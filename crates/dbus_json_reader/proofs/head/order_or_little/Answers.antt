use Rattle.std.proofs.Common.{codes, sym}
use Rattle.json.specs.Value.{value_view}
use Rattle.dbus_json_reader.specs.JsonRules.{order_reason}
use Rattle.dbus_json_reader.proofs.Shown.{value_shows}
use Rattle.dbus_json_reader.proofs.head.order_or_little.Goals as goal

pub returns-in-None-clause-shown : goal.returns-in-None-clause-shown
returns-in-None-clause-shown g c =
    let value = value_view c.in-Some.value.now in
    value_shows (codes "order") order_reason (value_view c.args.json.now) value c.at_value.result c.no_order.result c.no_order.ensures.reason (c.at_value.ensures value (sym c.in-Some.ensures))
