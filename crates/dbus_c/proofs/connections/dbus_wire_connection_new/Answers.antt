use Rattle.std.proofs.Common.{◌≡◌, subst}
use Rattle.std.specs.Prelude.{MatchResult, None}
use Rattle.dbus_connection.specs.declared.settings.Settings.{Settings}
use Rattle.dbus_c_handle.specs.Checkers.{handshake_of}
use Rattle.dbus_c_handle.specs.Connections.{Connects, start_of}
use Rattle.dbus_c.specs.Connections.{settings_given}
use Rattle.dbus_c.proofs.ConnectionsMade.{connection_made}
use Rattle.dbus_c.proofs.connections.dbus_wire_connection_new.Goals as goal

pub returns-clause-made : goal.returns-clause-made
returns-clause-made c =
    let start = start_of (handshake_of c.args.handshake.now.state) in
    let new = c.make_connection.new.self.state in
    let is = subst (λ (s : Settings). MatchResult c.make_connection.result (λ m. Connects start s new m) (λ _. new ≡ None)) c.settings_given-settings.ensures c.make_connection.ensures.made in
    connection_made start (settings_given c.args.limits.now c.args.longest c.args.calls) c.make_connection.result c.connected_told.result new c.connected_told.ensures is
