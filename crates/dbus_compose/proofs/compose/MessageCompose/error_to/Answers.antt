use Rattle.std.proofs.Common.{ℕ, List, ◌∷◌, Bor, ap, subst}
use Rattle.dbus_message_model.specs.Messages.{FieldTree, MessageTree}
use Rattle.dbus_message_model.specs.MessageViews.{message_tree}
use Rattle.dbus_compose.specs.Drafts.{IsDraft, begun, name_field, drafted}
use Rattle.dbus_compose.proofs.FieldPlaces.{replied}
use Rattle.dbus_compose.proofs.compose.MessageCompose.error_to.Goals as goal

pub returns : goal.returns
returns g c =
    subst (λ (fs : List FieldTree). IsDraft (begun 3 1 (name_field 4 c.args.name.now ∷ fs)) (drafted c.error.result))
    (replied (λ (s : Bor (List ℕ)). s.now) (message_tree c.args.message.now) c.parts.result.now.serial c.sender.result (ap (λ (m : MessageTree). m.serial) c.parts.ensures.same) c.sender.ensures) c.error.ensures
