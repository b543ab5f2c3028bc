use Rattle.std.proofs.Common.{sym}
use Rattle.json.specs.Value.{value_view}
use Rattle.dbus_json_reader.specs.JsonRules.{unsigned_reason}
use Rattle.dbus_json_reader.proofs.Shown.{value_shows}
use Rattle.dbus_json_reader.proofs.head.unsigned_or.Goals as goal

pub returns-in-None-clause-shown : goal.returns-in-None-clause-shown
returns-in-None-clause-shown g c =
    let value = value_view c.in-Some.value.now in
    value_shows c.args.name.now (unsigned_reason c.args.past) (value_view c.args.json.now) value c.at_value.result c.no_unsigned.result c.no_unsigned.ensures.reason (c.at_value.ensures value (sym c.in-Some.ensures))
