-- Both ends and the bytes between them, over every order of events; and what holds of each
-- handshake. D-Bus Specification, "Authentication Protocol".
use Rattle.std.specs.Prelude.{ℕ, ◌+◌, ◌*◌, ◌≤◌, ◌≡◌, ◌⊎◌, ◌==◌, Bool, true, false, List, [], ◌∷◌, ◌++◌, length, take, drop, Some, count_by, ◌≢◌, codes, bytes_eq, ◌&&◌, if◌then◌else◌}
use Rattle.std.specs.List.{AllByRecursion, list_any}
use Rattle.dbus_auth_lines.specs.ServerCommands as server
use Rattle.dbus_auth_lines.specs.Lines.{server_line, ended}
use Rattle.dbus_auth.specs.Machines.{ServerMachine, ClientMachine, unaccepted}
use Rattle.dbus_auth.specs.Ends.{EndState, ServerEndState, ClientEndState, EndOutcome, Turn, not_started, takes, server_turn, client_turn, server_takes, client_takes, client_starts}
use Rattle.dbus_auth.specs.declared.end_step.Status.{Status}
use Rattle.dbus_auth.specs.declared.end_step.Status.TheVariants as status
use Rattle.dbus_auth.specs.declared.states.ServerState.TheVariants as at
use Rattle.dbus_auth.specs.declared.states.ClientState.TheVariants as now

-- one direction: all bytes that were sent, and how many of them were taken
pub record Wire : Type 0 where
  pub sent : List ℕ
  pub took : ℕ

-- what was sent and is not taken yet
abbrev pub untaken : Wire → List ℕ
untaken wire = drop wire.took wire.sent

abbrev pub sending : Wire → List ℕ → Wire
sending wire bytes = record { sent = wire.sent ++ bytes; took = wire.took }

abbrev pub taking : Wire → ℕ → Wire
taking wire n = record { sent = wire.sent; took = wire.took + n }

pub record World : Type 0 where
  pub server : ServerEndState
  pub client : ClientEndState
  pub to_server : Wire
  pub to_client : Wire
  -- of what was sent, what the client's end sent, and what the two callers sent
  pub client_said : List ℕ
  pub client_wrote : List ℕ
  pub server_wrote : List ℕ

pub data Event : Type 0 where
  Start : Event
  -- a piece of the first n untaken bytes is handed to the end
  To_server : (n : ℕ) → Event
  To_client : (n : ℕ) → Event
  -- the caller of an end that has begun sends bytes
  Server_writes : (bytes : List ℕ) → Event
  Client_writes : (bytes : List ℕ) → Event

-- what becomes of the world by a call of an end
abbrev pub server_did : World → EndOutcome ServerEndState → World
server_did w outcome = record w {
  server = outcome.after;
  to_server = taking w.to_server outcome.taken;
  to_client = sending w.to_client outcome.send;
}

abbrev pub client_did : World → EndOutcome ClientEndState → World
client_did w outcome = record w {
  client = outcome.after;
  to_server = sending w.to_server outcome.send;
  to_client = taking w.to_client outcome.taken;
  client_said = w.client_said ++ outcome.send;
}

abbrev pub server_writes : World → List ℕ → Status → World
server_writes w bytes status.Begun = record w { to_client = sending w.to_client bytes; server_wrote = w.server_wrote ++ bytes }
server_writes w bytes status.Talking = w
server_writes w bytes status.Closed = w

abbrev pub client_writes : World → List ℕ → Status → World
client_writes w bytes status.Begun = record w { to_server = sending w.to_server bytes; client_wrote = w.client_wrote ++ bytes }
client_writes w bytes status.Talking = w
client_writes w bytes status.Closed = w

-- the client starts once
abbrev pub start_once : World → Bool → World
start_once w true = w
start_once w false = client_did w (client_starts w.client)

-- nothing is handed to a client that has not started
abbrev pub hand_client : World → ℕ → Bool → World
hand_client w n true = client_did w (client_takes w.client (take n (untaken w.to_client)))
hand_client w n false = w

-- one event, and a list of them
abbrev pub happens : World → Event → World
happens w Start = start_once w w.client.started
happens w (To_server n) = server_did w (server_takes w.server (take n (untaken w.to_server)))
happens w (To_client n) = hand_client w n w.client.started
happens w (Server_writes bytes) = server_writes w bytes w.server.status
happens w (Client_writes bytes) = client_writes w bytes w.client.status

abbrev pub run : List Event → World → World
run [] w = w
run (e ∷ es) w = run es (happens w e)

-- a server in its first state
abbrev pub server_at_first : ServerMachine → ServerEndState
server_at_first s = not_started (record s { state = at.WaitingForAuth; agreed = false })

abbrev pub client_at_first : ClientMachine → ClientEndState
client_at_first c = not_started (unaccepted c.descriptors now.Fresh c.left)

abbrev pub silent : Wire
silent = record { sent = []; took = 0 }

abbrev pub at_first : ServerMachine → ClientMachine → World
at_first s c = record {
  server = server_at_first s;
  client = client_at_first c;
  to_server = silent;
  to_client = silent;
  client_said = [];
  client_wrote = [];
  server_wrote = [];
}

-- how many lines end in these bytes
abbrev pub line_ends : List ℕ → ℕ
line_ends bytes = count_by (λ b. b == 10) bytes

-- the lines that end a client's part: BEGIN, and NEGOTIATE_UNIX_FD before it
abbrev pub last_lines : ClientMachine → ℕ
last_lines c = if c.descriptors then 2 else 1

-- what holds of every handshake of this server and this client, of which each has its mechanisms,
-- and may pass descriptors or not
pub record Handshake (s : ServerMachine) (c : ClientMachine) (w : World) : Type 0 where
  pub client_began : w.server.status ≡ status.Begun → w.client.status ≡ status.Begun
  pub same_guid : w.client.status ≡ status.Begun → w.client.machine.guid ≡ Some s.guid
  pub server_stands : w.client.status ≡ status.Begun → (w.server.machine.state ≡ at.WaitingForBegin) ⊎ (w.server.machine.state ≡ at.Begun)
  -- both know the same, and both agreed exactly if both may pass descriptors
  pub same_agreed : w.client.status ≡ status.Begun → w.client.machine.agreed ≡ w.server.machine.agreed
  pub agreed : w.client.status ≡ status.Begun → w.server.machine.agreed ≡ (s.descriptors && c.descriptors)
  -- nothing after BEGIN was taken, and nothing else is left
  pub to_server : w.server.status ≡ status.Begun → untaken w.to_server ≡ w.client_wrote
  -- nothing after the line that the client answered by BEGIN was taken
  pub to_client : w.client.status ≡ status.Begun → untaken w.to_client ≡ w.server_wrote
  -- what the client's caller sent stands after all that its end sent
  pub order : w.to_server.sent ≡ w.client_said ++ w.client_wrote
  pub lines : line_ends w.client_said ≤ 2 * length c.left + last_lines c

-- An end before any peer: any bytes, in any pieces. D-Bus Specification, "Authentication Protocol".

-- what came of some bytes: the end, the lines that it sent, and the bytes that it has not taken
pub record EndRun (M : Type 0) : Type 0 where
  pub after : EndState M
  pub said : List (List ℕ)
  pub left : List ℕ

abbrev pub ServerRun : Type 0
ServerRun = EndRun ServerMachine

-- a call sends one line or nothing
abbrev pub line_sent : List ℕ → List (List ℕ)
line_sent [] = []
line_sent (b ∷ bs) = (b ∷ bs) ∷ []

-- a call that sent this, and then the others
abbrev pub saying : {M : Type 0} → List ℕ → EndRun M → EndRun M
saying send run = record { after = run.after; said = line_sent send ++ run.said; left = run.left }

-- each call is handed a piece of the first n bytes that are not taken, for the next n of the list
abbrev pub run_end : {M : Type 0} → (M → List ℕ → Turn M) → EndState M → List ℕ → List ℕ → EndRun M
run_end turn e bytes [] = record { after = e; said = []; left = bytes }
run_end turn e bytes (n ∷ ns) =
    saying (takes turn e (take n bytes)).send (run_end turn (takes turn e (take n bytes)).after (drop (takes turn e (take n bytes)).taken bytes) ns)

abbrev pub run_server : ServerEndState → List ℕ → List ℕ → ServerRun
run_server e bytes ns = run_end server_turn e bytes ns

-- a client's end starts first
abbrev pub run_client : ClientEndState → List ℕ → List ℕ → EndRun ClientMachine
run_client e bytes ns = saying (client_starts e).send (run_end client_turn (client_starts e).after bytes ns)

-- nothing is left to hand in, or the end takes nothing more
abbrev pub IsFinished : {M : Type 0} → EndRun M → Type 0
IsFinished run = (run.left ≡ []) ⊎ (run.after.status ≢ status.Talking)

-- a line that may follow OK: ERROR, or AGREE_UNIX_FD of a server that passes descriptors
abbrev pub IsAfterOk : (descriptors : Bool) → List ℕ → Type 0
IsAfterOk false line = line ≡ ended (codes "ERROR")
IsAfterOk true line = (line ≡ ended (codes "ERROR")) ⊎ (line ≡ ended (codes "AGREE_UNIX_FD"))

abbrev pub is_agree : List ℕ → Bool
is_agree line = bytes_eq line (ended (codes "AGREE_UNIX_FD"))

-- the last line other than these is OK, and AGREE_UNIX_FD is among them exactly if the server has
-- agreed
pub record LastIsOk (s : ServerMachine) (agreed : Bool) (said : List (List ℕ)) : Type 0 where
  pub front : List (List ℕ)
  pub after : List (List ℕ)
  pub is : said ≡ front ++ ended (server_line (server.Accepted s.guid)) ∷ after
  pub only : AllByRecursion (IsAfterOk s.descriptors) after
  pub agrees : agreed ≡ list_any is_agree after

-- two ways to cut the same bytes look alike
pub record LooksAlike (a b : ServerRun) : Type 0 where
  pub said : a.said ≡ b.said
  pub status : a.after.status ≡ b.after.status
