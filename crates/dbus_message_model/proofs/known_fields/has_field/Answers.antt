use Rattle.std.proofs.Common.{sym, ◌∙◌}
use Rattle.dbus_message_model.proofs.FieldLists.{has_here, has_later, has_no_more}
use Rattle.dbus_message_model.proofs.known_fields.has_field.Goals as goal

pub returns-then-field-code : goal.returns-then-field-code
returns-then-field-code g c =
    sym (has_here c.args.fields.now c.loop-field.field-index c.args.code c.field-item.result c.loop-field-test.true c.field-item.is c.if-field-code.true) ∙ c.loop-field.invariant

pub loop-field-preserved : goal.loop-field-preserved
loop-field-preserved g c =
    sym (has_later c.args.fields.now c.loop-field.field-index c.args.code c.field-item.result c.loop-field-test.true c.field-item.is c.if-field-code.false) ∙ c.loop-field.invariant

pub returns : goal.returns
returns g c = sym (has_no_more c.args.fields.now c.loop-field.field-index c.args.code c.loop-field-test.false) ∙ c.loop-field.invariant
