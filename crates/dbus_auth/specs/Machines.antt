-- The two state machines as tables: for each state and each command the one row, with what is sent
-- and the next state. D-Bus Specification, "Authentication Protocol", "Authentication state
-- diagrams".
use Rattle.std.specs.Prelude.{ℕ, ◌&&◌, ◌||◌, Bool, true, false, List, [], ◌∷◌, ◌++◌, Option, Some, None, codes, bytes_eq, decimal, if◌then◌else◌, ◌<◌, ◌^◌, length, IfSome, ◌≡◌, ◌≤◌}
use Rattle.hex.specs.Hex.{IsBytes}
use Rattle.dbus_auth_lines.specs.ClientCommands.{ClientCommand}
use Rattle.dbus_auth_lines.specs.ClientCommands as client
use Rattle.dbus_auth_lines.specs.ServerCommands.{ServerCommand}
use Rattle.dbus_auth_lines.specs.ServerCommands as server
use Rattle.dbus_auth.specs.declared.states.ServerState.{ServerState}
use Rattle.dbus_auth.specs.declared.states.ServerState.TheVariants as at
use Rattle.dbus_auth.specs.declared.states.ClientState.{ClientState}
use Rattle.dbus_auth.specs.declared.states.ClientState.TheVariants as now

-- ---- a row

-- what a machine does; L: the lines of its side
pub data Action (L : Type 0) : Type 0 where
  Sends : (line : L) → Action L
  Begins : Action L
  Disconnects : Action L

-- and what its state is then
pub record Step (L S : Type 0) : Type 0 where
  pub action : Action L
  pub next : S

-- ---- the server

pub record ServerMachine : Type 0 where
  pub guid : List ℕ
  -- the user that the transport tells
  pub user : Option ℕ
  pub anonymous : Bool
  -- it agrees to pass Unix file descriptors, if it is asked
  pub descriptors : Bool
  pub state : ServerState
  -- it sent AGREE_UNIX_FD to the client that it accepted
  pub agreed : Bool

abbrev pub ServerAction : Type 0
ServerAction = Action ServerCommand

abbrev pub ServerStep : Type 0
ServerStep = Step ServerCommand ServerMachine

-- the decimal text of the user, without leading zeros
abbrev pub is_user : Option ℕ → List ℕ → Bool
is_user None response = false
is_user (Some n) response = bytes_eq response (decimal n)

abbrev pub offers_external : Option ℕ → Bool
offers_external None = false
offers_external (Some n) = true

abbrev pub is_empty : List ℕ → Bool
is_empty [] = true
is_empty (b ∷ bs) = false

abbrev pub external_words : Option ℕ → List (List ℕ)
external_words None = []
external_words (Some n) = codes "EXTERNAL" ∷ []

-- the mechanisms that the server offers
abbrev pub mechanisms : ServerMachine → List (List ℕ)
mechanisms s = external_words s.user ++ (if s.anonymous then codes "ANONYMOUS" ∷ [] else [])

-- it sends a line, and has agreed to nothing
abbrev pub replies : ServerMachine → ServerCommand → ServerState → ServerStep
replies s line next = record { action = Sends line; next = record s { state = next; agreed = false } }

abbrev pub rejects : ServerMachine → ServerStep
rejects s = replies s (server.Rejected (mechanisms s)) at.WaitingForAuth

abbrev pub accepts : ServerMachine → ServerStep
accepts s = replies s (server.Accepted s.guid) at.WaitingForBegin

abbrev pub disconnects : ServerMachine → ServerStep
disconnects s = record { action = Disconnects; next = record s { state = at.Closed; agreed = false } }

-- ERROR, and all stays
abbrev pub complains : ServerMachine → ServerStep
complains s = record { action = Sends (server.Error []); next = s }

-- D-Bus Specification, "NEGOTIATE_UNIX_FD Command"
abbrev pub negotiates : ServerMachine → ServerStep
negotiates s =
    if s.descriptors then record { action = Sends server.Agree; next = record s { state = at.WaitingForBegin; agreed = true } }
    else complains s

-- an empty EXTERNAL is asked for its identity by DATA
abbrev pub by_mechanism : ServerMachine → List ℕ → List ℕ → ServerStep
by_mechanism s mech response =
    if bytes_eq mech (codes "EXTERNAL") && offers_external s.user && is_empty response then replies s (server.DataOf []) at.WaitingForData
    else if bytes_eq mech (codes "EXTERNAL") && is_user s.user response then accepts s
    else if bytes_eq mech (codes "ANONYMOUS") && s.anonymous then accepts s
    else rejects s

-- the rows of each state, of which the first that fits holds
abbrev pub waiting_for_auth : ServerMachine → ClientCommand → ServerStep
waiting_for_auth s (client.AuthBy mech response) = by_mechanism s mech response
waiting_for_auth s client.Auth = rejects s
waiting_for_auth s (client.Error text) = rejects s
waiting_for_auth s client.Begin = disconnects s
waiting_for_auth s _ = complains s

-- no identity means the user that the transport tells
abbrev pub waiting_for_data : ServerMachine → ClientCommand → ServerStep
waiting_for_data s (client.DataOf bytes) = if is_empty bytes || is_user s.user bytes then accepts s else rejects s
waiting_for_data s client.Cancel = rejects s
waiting_for_data s (client.Error text) = rejects s
waiting_for_data s client.Begin = disconnects s
waiting_for_data s _ = complains s

abbrev pub waiting_for_begin : ServerMachine → ClientCommand → ServerStep
waiting_for_begin s client.Begin = record { action = Begins; next = record s { state = at.Begun } }
waiting_for_begin s client.Cancel = rejects s
waiting_for_begin s (client.Error text) = rejects s
waiting_for_begin s client.Negotiate = negotiates s
waiting_for_begin s _ = complains s

-- the table; past the last state nothing is received
abbrev pub server_step_at : ServerMachine → ServerState → ClientCommand → ServerStep
server_step_at s at.WaitingForAuth line = waiting_for_auth s line
server_step_at s at.WaitingForData line = waiting_for_data s line
server_step_at s at.WaitingForBegin line = waiting_for_begin s line
server_step_at s at.Begun line = record { action = Disconnects; next = s }
server_step_at s at.Closed line = record { action = Disconnects; next = s }

unfoldable pub server_step : ServerMachine → ClientCommand → ServerStep
server_step s line = server_step_at s s.state line

-- ---- the client

pub data ClientMechanism : Type 0 where
  External : (user : Option ℕ) → ClientMechanism
  Anonymous : (trace : List ℕ) → ClientMechanism

pub record ClientMachine : Type 0 where
  pub state : ClientState
  -- the mechanisms that were not tried yet
  pub left : List ClientMechanism
  -- it asks to pass Unix file descriptors
  pub descriptors : Bool
  -- of the server that accepted it
  pub guid : Option (List ℕ)
  -- that server sent AGREE_UNIX_FD
  pub agreed : Bool

abbrev pub ClientAction : Type 0
ClientAction = Action ClientCommand

abbrev pub ClientStep : Type 0
ClientStep = Step ClientCommand ClientMachine

abbrev pub auth_line : ClientMechanism → ClientCommand
auth_line (External None) = client.AuthBy (codes "EXTERNAL") []
auth_line (External (Some n)) = client.AuthBy (codes "EXTERNAL") (decimal n)
auth_line (Anonymous trace) = client.AuthBy (codes "ANONYMOUS") trace

abbrev pub waits_in : ClientMechanism → ClientState
waits_in (External None) = now.WaitingForData
waits_in (External (Some n)) = now.WaitingForOk
waits_in (Anonymous trace) = now.WaitingForOk

-- a client that no server has accepted
abbrev pub unaccepted : (descriptors : Bool) → ClientState → List ClientMechanism → ClientMachine
unaccepted descriptors state left = record { state = state; left = left; descriptors = descriptors; guid = None; agreed = false }

-- AUTH of the next mechanism, or the end
abbrev pub next_among : (descriptors : Bool) → List ClientMechanism → ClientStep
next_among descriptors [] = record { action = Disconnects; next = unaccepted descriptors now.Closed [] }
next_among descriptors (m ∷ ms) = record { action = Sends (auth_line m); next = unaccepted descriptors (waits_in m) ms }

abbrev pub next_of : ClientMachine → ClientStep
next_of c = next_among c.descriptors c.left

-- it sends a line, and no server has accepted it
abbrev pub asks : ClientMachine → ClientCommand → ClientState → ClientStep
asks c line state = record { action = Sends line; next = unaccepted c.descriptors state c.left }

-- ERROR, and all stays
abbrev pub client_complains : ClientMachine → ClientStep
client_complains c = record { action = Sends (client.Error []); next = c }

abbrev pub begins : ClientMachine → Option (List ℕ) → (agreed : Bool) → ClientStep
begins c guid agreed = record { action = Begins; next = record c { state = now.Begun; guid = guid; agreed = agreed } }

abbrev pub closes : ClientMachine → ClientStep
closes c = record { action = Disconnects; next = unaccepted c.descriptors now.Closed c.left }

-- after OK. D-Bus Specification, "OK Command"
abbrev pub client_accepted : ClientMachine → List ℕ → ClientStep
client_accepted c guid =
    if c.descriptors then record { action = Sends client.Negotiate; next = record c { state = now.WaitingForAgree; guid = Some guid; agreed = false } }
    else begins c (Some guid) false

abbrev pub client_waiting_for_data : ClientMachine → ServerCommand → ClientStep
client_waiting_for_data c (server.DataOf bytes) = asks c (client.DataOf []) now.WaitingForOk
client_waiting_for_data c (server.Accepted guid) = client_accepted c guid
client_waiting_for_data c (server.Rejected words) = next_of c
client_waiting_for_data c (server.Error text) = asks c client.Cancel now.WaitingForReject
client_waiting_for_data c _ = client_complains c

abbrev pub client_waiting_for_ok : ClientMachine → ServerCommand → ClientStep
client_waiting_for_ok c (server.Accepted guid) = client_accepted c guid
client_waiting_for_ok c (server.Rejected words) = next_of c
client_waiting_for_ok c (server.DataOf bytes) = asks c client.Cancel now.WaitingForReject
client_waiting_for_ok c (server.Error text) = asks c client.Cancel now.WaitingForReject
client_waiting_for_ok c _ = client_complains c

-- D-Bus Specification, "AGREE_UNIX_FD Command"; what else comes ends the handshake
abbrev pub client_waiting_for_agree : ClientMachine → ServerCommand → ClientStep
client_waiting_for_agree c server.Agree = begins c c.guid true
client_waiting_for_agree c (server.Error text) = begins c c.guid false
client_waiting_for_agree c _ = closes c

abbrev pub client_waiting_for_reject : ClientMachine → ServerCommand → ClientStep
client_waiting_for_reject c (server.Rejected words) = next_of c
client_waiting_for_reject c _ = closes c

abbrev pub client_step_at : ClientMachine → ClientState → ServerCommand → ClientStep
client_step_at c now.WaitingForData line = client_waiting_for_data c line
client_step_at c now.WaitingForOk line = client_waiting_for_ok c line
client_step_at c now.WaitingForAgree line = client_waiting_for_agree c line
client_step_at c now.WaitingForReject line = client_waiting_for_reject c line
client_step_at c now.Fresh line = record { action = Disconnects; next = c }
client_step_at c now.Begun line = record { action = Disconnects; next = c }
client_step_at c now.Closed line = record { action = Disconnects; next = c }

unfoldable pub client_step : ClientMachine → ServerCommand → ClientStep
client_step c line = client_step_at c c.state line

-- ---- what a server is made of

pub record IsServer (s : ServerMachine) : Type 0 where
  pub guid : length s.guid ≡ 16
  pub bytes : IsBytes s.guid
  pub user : IfSome s.user (λ n. n < 2 ^ 32)

-- The mechanisms that a client may have. D-Bus Specification, "Authentication Protocol",
-- "Authentication mechanisms".

-- a user that fits its 32 bits, and a short trace of bytes
abbrev pub IsMechanism : ClientMechanism → Type 0
IsMechanism (External None) = Unit {0}
IsMechanism (External (Some n)) = n < 2 ^ 32
IsMechanism (Anonymous trace) = (length trace ≤ 255) × IsBytes trace
