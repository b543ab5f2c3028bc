use Rattle.dbus_c_auth.specs.Handshakes.{client_made}
use Rattle.dbus_c.proofs.EndsMade.{end_made}
use Rattle.dbus_c.proofs.handshakes.dbus_wire_client_new.Goals as goal

pub returns : goal.returns
returns c = end_made (client_made c.args.mechanisms.now c.args.trace.now) c.make_client.result c.made_told.result c.make_client.new.self.state c.made_told.ensures c.make_client.ensures
