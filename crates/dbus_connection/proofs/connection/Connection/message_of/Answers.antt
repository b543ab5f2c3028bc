use Rattle.std.proofs.Common.{Ok, Option, subst, Global}
use Rattle.dbus_compose.specs.Drafts.{Draft, IsComposed, drafted}
use Rattle.dbus_connection.proofs.Sent.{made}
use Rattle.dbus_connection.proofs.connection.Connection.message_of.Goals as goal

pub returns-clause-made : goal.returns-clause-made
returns-clause-made g c =
    let m = c.in_ok-build.field-0 in
    made c.args.self.now.pending (drafted c.args.draft) c.next_serial-serial.result m c.next_serial-serial.ensures
    (subst (λ (d : Option (Draft Global)). IsComposed d (Ok m)) c.serial.ensures c.in_ok-build.ensures)
