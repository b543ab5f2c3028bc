use Rattle.std.proofs.Common.{◌+◌, drop, take, arith, sym, ◌∙◌}
use Rattle.dbus_value_model.specs.SizeLimits.{with_value}
use Rattle.dbus_message_model.specs.Messages.{field_struct}
use Rattle.dbus_message_model.specs.PartsViews.{field_tree}
use Rattle.dbus_message_model.proofs.FieldLists.{structs, fields_short}
use Rattle.dbus_encode.proofs.FieldWriting.{fields_step, fields_end_step, within_all}
use Rattle.dbus_encode.proofs.encoding.write_fields.Goals as goal

pub write_field-place-requires-clause-space : goal.write_field-place-requires-clause-space
write_field-place-requires-clause-space g c =
    let here = take c.loop-field.place c.loop-field.out in
    let step = sym (fields_step c.args.order c.args.fields.now c.loop-field.field-index c.field-item.result here c.loop-field-test.true c.field-item.is) ∙ c.loop-field.invariant.left in
    omega (arith, within_all c.args.order (structs (drop (c.loop-field.field-index + 1) c.args.fields.now)) (with_value c.args.order (field_struct (field_tree c.field-item.result)) here) _ step, c.requires.space, c.loop-field.auto.out)

pub write_field-place-requires-clause-signed : goal.write_field-place-requires-clause-signed
write_field-place-requires-clause-signed g c = (fields_short c.args.fields.now c.loop-field.field-index c.field-item.result c.loop-field-test.true c.field-item.is c.loop-field.invariant.signed).0

pub loop-field-preserved : goal.loop-field-preserved
loop-field-preserved g c =
    let here = take c.loop-field.place c.loop-field.out in
    let step = sym (fields_step c.args.order c.args.fields.now c.loop-field.field-index c.field-item.result here c.loop-field-test.true c.field-item.is) ∙ c.loop-field.invariant.left in
    record {
      left = rw c.write_field-place.ensures.written step;
      within = c.write_field-place.ensures.within;
      signed = (fields_short c.args.fields.now c.loop-field.field-index c.field-item.result c.loop-field-test.true c.field-item.is c.loop-field.invariant.signed).1;
    }

pub returns-clause-written : goal.returns-clause-written
returns-clause-written g c = sym (fields_end_step c.args.order c.args.fields.now c.loop-field.field-index (take c.loop-field.place c.loop-field.out) c.loop-field-test.false) ∙ c.loop-field.invariant.left
