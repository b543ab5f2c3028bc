use Rattle.std.proofs.Common.{sym, ap, ◌∙◌}
use Rattle.dbus_message_model.specs.Messages.{body_signature}
use Rattle.dbus_message_model.proofs.FieldLists.{no_fields_from, signature_here, signature_later}
use Rattle.dbus_message_model.proofs.known_fields.body_signature.Goals as goal

pub returns-then-field-eq-SIGNATURE : goal.returns-then-field-eq-SIGNATURE
returns-then-field-eq-SIGNATURE g c =
    c.text_in.ensures ∙ sym (signature_here c.args.fields.now c.loop-field.field-index c.field-item.result c.loop-field-test.true c.field-item.is c.if-field-eq-SIGNATURE.true) ∙ c.loop-field.invariant

pub loop-field-preserved : goal.loop-field-preserved
loop-field-preserved g c =
    sym (signature_later c.args.fields.now c.loop-field.field-index c.field-item.result c.loop-field-test.true c.field-item.is c.if-field-eq-SIGNATURE.false) ∙ c.loop-field.invariant

pub returns : goal.returns
returns g c = sym (ap body_signature (no_fields_from c.args.fields.now c.loop-field.field-index c.loop-field-test.false)) ∙ c.loop-field.invariant
