-- The server's state machine as contracts see it. D-Bus Specification, "Authentication Protocol".
use Rattle.std.specs.Prelude.{Bool, false}
use Rattle.dbus_auth.specs.Machines.{ServerMachine, ServerStep, ServerAction, Sends, Begins, Disconnects}
use Rattle.dbus_auth_lines.specs.Lines.{server_command}
use Rattle.dbus_auth.specs.declared.states.ServerState.{ServerState}
use Rattle.dbus_auth.specs.declared.states.ServerState.TheVariants as at
use Rattle.dbus_auth.specs.declared.server.Server.{Server}
use Rattle.dbus_auth.specs.declared.server.ServerStage.{ServerStage}
use Rattle.dbus_auth.specs.declared.server.ServerStage.TheVariants as stage
use Rattle.dbus_auth.specs.declared.server.ServerAct.{ServerAct}
use Rattle.dbus_auth.specs.declared.server.ServerAct.TheVariants as act

abbrev pub server_state : ServerStage → ServerState
server_state stage.WaitingForAuth = at.WaitingForAuth
server_state stage.WaitingForData = at.WaitingForData
server_state (stage.WaitingForBegin agreed) = at.WaitingForBegin
server_state (stage.Begun agreed) = at.Begun
server_state stage.Closed = at.Closed

abbrev pub server_agreed : ServerStage → Bool
server_agreed stage.WaitingForAuth = false
server_agreed stage.WaitingForData = false
server_agreed (stage.WaitingForBegin agreed) = agreed
server_agreed (stage.Begun agreed) = agreed
server_agreed stage.Closed = false

-- a server as it is in a stage
abbrev pub server_at : Server → ServerStage → ServerMachine
server_at s next = record {
  guid = s.guid.0;
  user = s.user;
  anonymous = s.anonymous;
  descriptors = s.descriptors;
  state = server_state next;
  agreed = server_agreed next;
}

abbrev pub server_machine : Server → ServerMachine
server_machine s = server_at s s.stage

abbrev pub server_action : {A : Type 0} → ServerAct A → ServerAction
server_action (act.Send line) = Sends (server_command line)
server_action act.Begin = Begins
server_action act.Disconnect = Disconnects

abbrev pub shown_step : {A : Type 0} → Server → ServerAct A → ServerStage → ServerStep
shown_step s act next = record { action = server_action act; next = server_at s next }

-- a state in which lines are received
abbrev pub IsWaiting : ServerState → Type 0
IsWaiting at.WaitingForAuth = Unit {0}
IsWaiting at.WaitingForData = Unit {0}
IsWaiting at.WaitingForBegin = Unit {0}
IsWaiting at.Begun = ⊥
IsWaiting at.Closed = ⊥
