use Rattle.std.proofs.Common.{sym, ap, ◌∙◌}
use Rattle.dbus_message_model.specs.Messages.{fd_count}
use Rattle.dbus_message_model.proofs.FieldLists.{no_fields_from, count_here, count_later}
use Rattle.dbus_message_model.proofs.known_fields.fd_count.Goals as goal

pub returns-then-field-eq-UNIX_FDS : goal.returns-then-field-eq-UNIX_FDS
returns-then-field-eq-UNIX_FDS g c =
    c.number_in.ensures ∙ sym (count_here c.args.fields.now c.loop-field.field-index c.field-item.result c.loop-field-test.true c.field-item.is c.if-field-eq-UNIX_FDS.true) ∙ c.loop-field.invariant

pub loop-field-preserved : goal.loop-field-preserved
loop-field-preserved g c =
    sym (count_later c.args.fields.now c.loop-field.field-index c.field-item.result c.loop-field-test.true c.field-item.is c.if-field-eq-UNIX_FDS.false) ∙ c.loop-field.invariant

pub returns : goal.returns
returns g c = sym (ap fd_count (no_fields_from c.args.fields.now c.loop-field.field-index c.loop-field-test.false)) ∙ c.loop-field.invariant
