use Rattle.dbus_c_auth.specs.Handshakes.{server_made}
use Rattle.dbus_c.proofs.EndsMade.{end_made}
use Rattle.dbus_c.proofs.handshakes.dbus_wire_server_new.Goals as goal

pub returns : goal.returns
returns c = end_made (server_made c.args.guid.now c.args.mechanisms.now) c.make_server.result c.made_told.result c.make_server.new.self.state c.made_told.ensures c.make_server.ensures
