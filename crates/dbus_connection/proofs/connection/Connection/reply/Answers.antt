use Rattle.std.proofs.Common.{ℕ, List, Bor, subst}
use Rattle.dbus_message_model.specs.Messages.{FieldTree}
use Rattle.dbus_compose.specs.Drafts.{IsDraft, begun, drafted}
use Rattle.dbus_compose.proofs.FieldPlaces.{replied}
use Rattle.dbus_connection.proofs.connection.Connection.reply.Goals as goal

pub returns : goal.returns
returns g c order m v =
    subst (λ (fs : List FieldTree). IsDraft (begun 2 1 fs) (drafted c.reply.result))
    (replied (λ (s : Bor (List ℕ)). s.now) m c.serial.result c.sender.result (c.serial.ensures order m v) (c.sender.ensures order m v)) c.reply.ensures
