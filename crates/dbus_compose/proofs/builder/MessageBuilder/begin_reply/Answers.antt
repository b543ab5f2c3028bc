use Rattle.std.proofs.Common.{◌≡◌, ◌∙◌, ℕ, List, [], ◌∷◌, Option, option_map, sym, ap, subst, Bor}
use Rattle.dbus_texts.specs.Types.{UINT32}
use Rattle.dbus_message_model.specs.Messages.{FieldTree}
use Rattle.dbus_value_model.specs.Values.{NumberValue, ValueTree}
use Rattle.dbus_value_model.specs.ValueViews.{value_tree}
use Rattle.dbus_value_model.specs.declared.value.Value.{U32}
use Rattle.dbus_value_model.proofs.ValueRows.{tree-U32}
use Rattle.dbus_compose.specs.Drafts.{IsDraft, begun, field_of, fields_to, name_field, with_field, drafted}
use Rattle.dbus_compose.proofs.FieldPlaces.{first_step, next_step}
use Rattle.dbus_compose.proofs.builder.MessageBuilder.begin_reply.Goals as goal

pub returns-in-None : goal.returns-in-None
returns-in-None g c =
    let serial = value_tree {A = g.row.A.Denot} (U32 c.args.serial) in
    let fields : field_of 5 serial ∷ [] ≡ fields_to c.args.serial (option_map (λ (s : Bor (List ℕ)). s.now) c.args.sender) =
    ap (λ (v : ValueTree). field_of 5 v ∷ []) (tree-U32 _ c.args.serial) ∙ ap (λ (s : Option (Bor (List ℕ))). fields_to c.args.serial (option_map (λ (s : Bor (List ℕ)). s.now) s)) (sym c.in-None.is) in
    subst (λ (fs : List FieldTree). IsDraft (begun c.args.kind 1 fs) (drafted c.field-builder.result)) fields
    (first_step (begun c.args.kind 1 []) (with_field (field_of 5 serial)) (drafted c.begin.result) (drafted c.field-builder.result) c.begin.ensures c.field-builder.ensures)

pub returns-in-Some : goal.returns-in-Some
returns-in-Some g c =
    let serial = value_tree {A = g.row.A.Denot} (U32 c.args.serial) in
    let sender = name_field 6 c.in-Some.sender.now in
    let fields : field_of 5 serial ∷ sender ∷ [] ≡ fields_to c.args.serial (option_map (λ (s : Bor (List ℕ)). s.now) c.args.sender) =
    ap (λ (v : ValueTree). field_of 5 v ∷ sender ∷ []) (tree-U32 _ c.args.serial) ∙ ap (λ (s : Option (Bor (List ℕ))). fields_to c.args.serial (option_map (λ (s : Bor (List ℕ)). s.now) s)) (sym c.in-Some.is) in
    subst (λ (fs : List FieldTree). IsDraft (begun c.args.kind 1 fs) (drafted c.destination.result)) fields
    (next_step (with_field (field_of 5 serial) (begun c.args.kind 1 [])) (with_field sender) (drafted c.field-builder.result) (drafted c.destination.result)
    (first_step (begun c.args.kind 1 []) (with_field (field_of 5 serial)) (drafted c.begin.result) (drafted c.field-builder.result) c.begin.ensures c.field-builder.ensures) c.destination.ensures)
