use Rattle.std.proofs.Common.{◌≡◌, List, length, sym, ap, ◌∙◌, arith}
use Rattle.std.proofs.lemmas.Grind.{common_steps}
use Rattle.dbus_texts.specs.Types.{SIGNATURE, sigs}
use Rattle.dbus_value_model.specs.Values.{ValueTree, TextValue, types_of}
use Rattle.dbus_value_model.specs.ValueViews.{value_trees_of}
use Rattle.dbus_value_model.specs.declared.value.Value.{Value}
use Rattle.dbus_value_model.proofs.ValueRows.{tree-Sig}
use Rattle.dbus_message_model.specs.Messages.{FieldTree, MessageTree}
use Rattle.dbus_message_model.specs.PartsViews.{field_trees}
use Rattle.dbus_compose.specs.Drafts.{field_of, put}
use Rattle.dbus_compose.proofs.FieldPlaces.{signed-some}
use Rattle.dbus_compose.proofs.signature.with_signature.Goals as goal

pub returns-clause-signed : goal.returns-clause-signed
returns-clause-signed g c =
    let p = c.args.parts in
    let fs = field_trees p.fields.items in
    let has_values : length p.body.items ≡ 0 → ⊥ = λ e. grind (arith, common_steps, e, c.if-is_empty.false, c.is_empty.ensures) in
    let text = c.in_ok-types_text.ensures ∙ ap (λ (vs : List (Value g.row.A.Denot)). sigs (types_of (value_trees_of vs))) c.deref.ensures.value in
    let tree : List FieldTree → MessageTree = λ all. record { kind = p.kind; flags = p.flags; serial = p.serial; fields = all; body = value_trees_of p.body.items } in
    ap tree (c.in_ok-put_field.ensures ∙ ap (λ (v : ValueTree). put (field_of 8 v) fs) (tree-Sig c.in_ok-types_text.field-0 ∙ ap (TextValue SIGNATURE) text) ∙ sym (signed-some p.body.items fs has_values))
