use Rattle.std.proofs.Common.{◌∙◌}
use Rattle.dbus_message_model.specs.MessageViews.{message_tree}
use Rattle.dbus_show_view.proofs.FieldParts.{begins_with_one, same_text}
use Rattle.dbus_show_view.proofs.show.show_message.Goals as goal

pub unreachable-requires : goal.unreachable-requires
unreachable-requires g c =
    begins_with_one c.specification-limits.result c.specification-limits.ensures c.args.order (message_tree c.args.message.now) c.as_slice-bytes.result.now (c.as_slice-bytes.ensures.value ∙ c.in_ok-encoded.ensures)
    c.args.message.now.valid (c.validate.ensures.none c.in_default.is)

pub returns : goal.returns
returns g c =
    let is = c.in-Some.ensures.validated in
    let j = c.in-Some.validated in
    c.in_ok-show_validated.ensures.shown is.message is.whole
    ∙ same_text c.specification-limits.result c.specification-limits.ensures c.args.order (message_tree c.args.message.now) c.as_slice-bytes.result.now (c.as_slice-bytes.ensures.value ∙ c.in_ok-encoded.ensures)
    c.args.message.now.valid j.order is.message j.length c.args.number is.whole
