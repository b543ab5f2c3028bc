-- The server's end as contracts see it. D-Bus Specification, "Authentication Protocol".
use Rattle.dbus_auth.specs.ServerViews.{server_machine}
use Rattle.dbus_auth.specs.Ends.{ServerEndState, ClientEndState}
use Rattle.dbus_auth.specs.EndStepViews.{end_state}
use Rattle.dbus_auth.specs.declared.server_end.ServerEnd.{ServerEnd}
use Rattle.dbus_auth.specs.ClientViews.{client_machine}
use Rattle.dbus_auth.specs.declared.client_end.ClientEnd.{ClientEnd}

abbrev pub server_end_state : {A : Type 0} → ServerEnd A → ServerEndState
server_end_state e = end_state server_machine e.end

-- The client's end as contracts see it.

abbrev pub client_end_state : {A : Type 0} → ClientEnd A → ClientEndState
client_end_state e = end_state client_machine e.end
