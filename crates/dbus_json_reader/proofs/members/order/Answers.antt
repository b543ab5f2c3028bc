use Rattle.std.proofs.Common.{sym, ap, ◌∙◌}
use Rattle.json.specs.Json as json
use Rattle.json.specs.Value.{value_view}
use Rattle.dbus_message_model.specs.Messages.{order_byte}
use Rattle.dbus_json_reader.proofs.OneByte.{view-String, not_one_byte, if_named, if_unnamed}
use Rattle.dbus_json_reader.proofs.members.order.Goals as goal

pub returns-then-bytes-ne1-clause-none : goal.returns-then-bytes-ne1-clause-none
returns-then-bytes-ne1-clause-none g c = λ none order e.
    let seen = ap value_view c.in-String.is ∙ view-String _ c.in-String.text ∙ ap json.string (sym c.as_bytes-bytes.ensures.value) in
    not_one_byte (value_view c.args.json.now) c.as_bytes-bytes.result.now seen c.if-bytes-ne1.true (order_byte order) e

pub returns-clause-some : goal.returns-clause-some
returns-clause-some g c =
    let seen = ap value_view c.in-String.is ∙ view-String _ c.in-String.text ∙ ap json.string (sym c.as_bytes-bytes.ensures.value) in
    if_named (value_view c.args.json.now) c.as_bytes-bytes.result.now seen c.from.result c.if-bytes-ne1.false c.from.ensures c.order_named.result c.order_named.ensures

pub returns-clause-none : goal.returns-clause-none
returns-clause-none g c = λ none order e.
    let seen = ap value_view c.in-String.is ∙ view-String _ c.in-String.text ∙ ap json.string (sym c.as_bytes-bytes.ensures.value) in
    if_unnamed (value_view c.args.json.now) c.as_bytes-bytes.result.now seen c.from.result c.if-bytes-ne1.false c.from.ensures c.order_named.result c.order_named.ensures none order e
