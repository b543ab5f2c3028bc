use Rattle.std.proofs.Common.{◌≡◌, sym, ap, ◌∙◌}
use Rattle.dbus_message_model.specs.KnownFields.{field_value}
use Rattle.dbus_message_model.specs.Messages.{MessageTree}
use Rattle.dbus_message_model.specs.MessageViews.{message_tree}
use Rattle.dbus_message_model.specs.PartsViews.{field_trees}
use Rattle.dbus_message_model.proofs.FieldLists.{value_here, field_kept}
use Rattle.dbus_message_model.proofs.lookups.field.Goals as goal

pub returns-then-field-code-clause-first : goal.returns-then-field-code-clause-first
returns-then-field-code-clause-first g c =
    let fields : field_trees c.deref-field-items.result.now ≡ (message_tree c.args.message.now).fields = ap field_trees c.deref-field-items.ensures.value ∙ ap (λ (m : MessageTree). m.fields) c.parts.ensures.same in
    ap (field_value c.args.code) (sym fields) ∙ sym c.loop-field.invariant ∙ value_here c.deref-field-items.result.now c.loop-field.field-index c.args.code c.field-item.result c.loop-field-test.true c.field-item.is c.if-field-code.true

pub returns-then-field-code-clause-packed : goal.returns-then-field-code-clause-packed
returns-then-field-code-clause-packed g c = field_kept c.deref-field-items.result.now c.loop-field.field-index c.field-item.result c.loop-field-test.true c.field-item.is (rw c.deref-field-items.ensures.value c.parts.ensures.packed.0)
