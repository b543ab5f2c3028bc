use Rattle.std.proofs.Common.{◌∙◌, refl}
use Rattle.dbus_compose.specs.Drafts.{drafted}
use Rattle.dbus_message_model.specs.MessageViews.{message_tree}
use Rattle.dbus_connection.proofs.Sent.{goes_to}
use Rattle.dbus_connection.proofs.connection.Connection.call.Goals as goal

pub returns-in-Ok-clause-waits : goal.returns-in-Ok-clause-waits
returns-in-Ok-clause-waits g c =
    let message = c.in_ok-message.message in
    record {
      asked = record { destination = c.in_ok-destination.destination; call = c.args.call };
      next = c.in-Ok.ensures.waits;
      again = refl;
      destination =
          λ d is. c.in_ok-destination.ensures
          ∙ goes_to c.args.self.now.pending (drafted c.args.draft) (message_tree message) d c.in_ok-message.ensures.made is;
    }
