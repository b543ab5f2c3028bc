use Rattle.std.proofs.Common.{◌<◌, take, arith, sym, ap, ◌∙◌}
use Rattle.dbus_value_model.specs.SizeLimits.{with_value}
use Rattle.dbus_value_model.specs.ValueViews.{value_tree}
use Rattle.dbus_message_model.specs.PartsViews.{field_tree}
use Rattle.dbus_encode.proofs.FieldWriting.{field_written, field_before}
use Rattle.dbus_encode.proofs.encoding.write_field.Goals as goal

pub write_value-requires-clause-space : goal.write_value-requires-clause-space
write_value-requires-clause-space g c =
    let small : c.args.field.now.code < 256 = omega arith in
    let front = take c.args.at c.args.out.now in
    let before = field_before c.args.order (field_tree c.args.field.now) front _ _ _ c.write_padding-place.ensures.written c.write_byte-place.ensures.written (c.write_variant_signature-place.ensures.written c.args.order) in
    rw (before, ← field_written c.args.order (field_tree c.args.field.now) front small) (omega (arith, c.requires.space))

pub returns-clause-written : goal.returns-clause-written
returns-clause-written g c =
    let small : c.args.field.now.code < 256 = omega arith in
    let front = take c.args.at c.args.out.now in
    let before = field_before c.args.order (field_tree c.args.field.now) front _ _ _ c.write_padding-place.ensures.written c.write_byte-place.ensures.written (c.write_variant_signature-place.ensures.written c.args.order) in
    c.write_value.ensures.written ∙ ap (with_value c.args.order (value_tree c.args.field.now.value)) before ∙ sym (field_written c.args.order (field_tree c.args.field.now) front small)
