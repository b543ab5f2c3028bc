-- The client's state machine as contracts see it. D-Bus Specification, "Authentication Protocol".
use Rattle.std.specs.Prelude.{ℕ, Bool, true, false, nat_le, List, map, drop, length, Option, Some, None}
use Rattle.dbus_auth.specs.Machines.{ClientMachine, ClientStep, ClientAction, Sends, Begins, Disconnects, ClientMechanism, External, Anonymous, unaccepted}
use Rattle.dbus_auth_lines.specs.Lines.{client_command}
use Rattle.dbus_auth.specs.declared.states.ClientState.{ClientState}
use Rattle.dbus_auth.specs.declared.states.ClientState.TheVariants as now
use Rattle.dbus_auth.specs.declared.client.Client.{Client}
use Rattle.dbus_auth.specs.declared.client.Mechanism.{Mechanism}
use Rattle.dbus_auth.specs.declared.client.Mechanism.TheVariants as mechanism
use Rattle.dbus_auth.specs.declared.client.ClientStage.{ClientStage}
use Rattle.dbus_auth.specs.declared.client.ClientStage.TheVariants as stage
use Rattle.dbus_auth.specs.declared.client.ClientAct.{ClientAct}
use Rattle.dbus_auth.specs.declared.client.ClientAct.TheVariants as act
use Rattle.dbus_auth.specs.declared.client.ClientTurn.{ClientTurn}

abbrev pub client_mechanism : {A : Type 0} → Mechanism A → ClientMechanism
client_mechanism (mechanism.External user) = External user
client_mechanism (mechanism.Anonymous trace) = Anonymous trace.items

-- a mechanism that `new` takes
abbrev pub is_short : {A : Type 0} → Mechanism A → Bool
is_short (mechanism.External user) = true
is_short (mechanism.Anonymous trace) = nat_le (length trace.items) 255

abbrev pub state_of : ClientStage → ClientState
state_of stage.Fresh = now.Fresh
state_of stage.WaitingForData = now.WaitingForData
state_of stage.WaitingForOk = now.WaitingForOk
state_of (stage.WaitingForAgree guid) = now.WaitingForAgree
state_of stage.WaitingForReject = now.WaitingForReject
state_of (stage.Begun guid agreed) = now.Begun
state_of stage.Closed = now.Closed

abbrev pub guid_of : ClientStage → Option (List ℕ)
guid_of stage.Fresh = None
guid_of stage.WaitingForData = None
guid_of stage.WaitingForOk = None
guid_of (stage.WaitingForAgree guid) = Some guid.0
guid_of stage.WaitingForReject = None
guid_of (stage.Begun guid agreed) = Some guid.0
guid_of stage.Closed = None

abbrev pub agreed_of : ClientStage → Bool
agreed_of (stage.Begun guid agreed) = agreed
agreed_of _ = false

abbrev pub stage_after : ClientMechanism → ClientStage
stage_after (External None) = stage.WaitingForData
stage_after (External (Some n)) = stage.WaitingForOk
stage_after (Anonymous trace) = stage.WaitingForOk

-- the mechanisms after those that were tried
abbrev pub left_of : {A : Type 0} → List (Mechanism A) → ℕ → List ClientMechanism
left_of mechanisms tried = map client_mechanism (drop tried mechanisms)

-- a client as it is in a stage, with this many mechanisms tried
abbrev pub client_at : {A : Type 0} → Client A → ClientStage → ℕ → ClientMachine
client_at c next tried = record {
  state = state_of next;
  left = left_of c.mechanisms.items tried;
  descriptors = c.descriptors;
  guid = guid_of next;
  agreed = agreed_of next;
}

abbrev pub client_machine : {A : Type 0} → Client A → ClientMachine
client_machine c = client_at c c.stage c.tried

abbrev pub fresh_client : {A : Type 0} → List (Mechanism A) → ClientMachine
fresh_client mechanisms = unaccepted false now.Fresh (map client_mechanism mechanisms)

abbrev pub client_action : {A : Type 0} → ClientAct A → ClientAction
client_action (act.Send line) = Sends (client_command line)
client_action act.Begin = Begins
client_action act.Disconnect = Disconnects

abbrev pub shown_client : {A : Type 0} → ClientAct A → Client A → ClientStep
shown_client act c = record { action = client_action act; next = client_machine c }

-- what a client is about to do
abbrev pub shown_turn : {A : Type 0} → ClientTurn A → Client A → ClientStep
shown_turn t c = record { action = client_action t.act; next = client_at c t.stage t.tried }

-- a state in which lines are received
abbrev pub IsListening : ClientState → Type 0
IsListening now.Fresh = ⊥
IsListening now.WaitingForData = Unit {0}
IsListening now.WaitingForOk = Unit {0}
IsListening now.WaitingForAgree = Unit {0}
IsListening now.WaitingForReject = Unit {0}
IsListening now.Begun = ⊥
IsListening now.Closed = ⊥
