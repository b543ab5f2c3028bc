-- An end of a connection, a server's or a client's: a state machine, and the bytes of an unfinished
-- line. What a call of an end does. D-Bus Specification, "Authentication Protocol", "Special
-- credentials-passing nul byte" and "Protocol Overview".
use Rattle.std.specs.Prelude.{ℕ, ◌+◌, ◌-◌, ◌==◌, Bool, true, false, List, [], ◌∷◌, ◌++◌, length, take, Option, Some, None, option_map, if◌then◌else◌}
use Rattle.dbus_auth_lines.specs.Lines.{client_meaning, server_meaning, client_line, server_line, ended}
use Rattle.dbus_auth_lines.specs.Cut.{Cut, Ends, Bad, More, cut}
use Rattle.dbus_auth_lines.specs.ClientCommands.{ClientCommand}
use Rattle.dbus_auth_lines.specs.ClientCommands as client
use Rattle.dbus_auth_lines.specs.ServerCommands.{ServerCommand}
use Rattle.dbus_auth_lines.specs.ServerCommands as server
use Rattle.dbus_auth.specs.Machines.{Action, Sends, Begins, Disconnects, Step, ServerMachine, ClientMachine, ServerAction, ClientAction, server_step, client_step, next_of}
use Rattle.dbus_auth.specs.declared.bounds.Bounds.{Bounds}
use Rattle.dbus_auth.specs.declared.bounds.Counted.{Counted}
use Rattle.dbus_auth.specs.declared.bounds.Counted.TheVariants as counted
use Rattle.dbus_auth.specs.declared.end_step.Status.{Status}
use Rattle.dbus_auth.specs.declared.end_step.Status.TheVariants as status

-- an end with its machine. started: the byte 0 was taken, or sent; kept: the bytes of an unfinished
-- line; left: what it may still send, if that is bounded
pub record EndState (M : Type 0) : Type 0 where
  pub machine : M
  pub started : Bool
  pub kept : List ℕ
  pub status : Status
  pub left : Option Bounds

-- what a machine does on a line: the machine after it, what is sent and what that counts as, and
-- where the end stands then
pub record Turn (M : Type 0) : Type 0 where
  pub next : M
  pub send : List ℕ
  pub counts : Counted
  pub status : Status

-- what a call of an end does: the end after it, how many bytes it takes, and what it sends
pub record EndOutcome (E : Type 0) : Type 0 where
  pub after : E
  pub taken : ℕ
  pub send : List ℕ

abbrev pub nothing : {E : Type 0} → E → EndOutcome E
nothing e = record { after = e; taken = 0; send = [] }

abbrev pub closes : {M : Type 0} → EndState M → EndOutcome (EndState M)
closes e = nothing (record e { status = status.Closed })

-- an end that was handed nothing, and one whose machine has answered
abbrev pub not_started : {M : Type 0} → M → EndState M
not_started m = record { machine = m; started = false; kept = []; status = status.Talking; left = None }

abbrev pub after_turn : {M : Type 0} → Turn M → EndState M
after_turn t = record { machine = t.next; started = true; kept = []; status = t.status; left = None }

-- ---- what is bounded. D-Bus Specification, "Authentication state diagrams", "Server states"

abbrev pub one_less : ℕ → Option ℕ
one_less n = if n == 0 then None else Some (n - 1)

abbrev pub less_by : Counted → Bounds → Option Bounds
less_by counted.Rejection b = option_map (λ n. record b { rejections = n }) (one_less b.rejections)
less_by counted.Stay b = option_map (λ n. record b { errors = n }) (one_less b.errors)
less_by counted.Step b = Some b

-- what may still be sent after a line that counts as this, if it may be sent
abbrev pub left_after : Option Bounds → Counted → Option (Option Bounds)
left_after None c = Some None
left_after (Some b) c = option_map Some (less_by c b)

-- ---- a call of an end whose machine does this on a line

module _ {M : Type 0} (turn : M → List ℕ → Turn M) where
  -- past its bounds the end closes
  abbrev pub answers_if : EndState M → ℕ → Turn M → Option (Option Bounds) → EndOutcome (EndState M)
  answers_if e taken t (Some left) = record { after = record (after_turn t) { left = left }; taken = taken; send = t.send }
  answers_if e taken t None = closes e

  abbrev pub answers : EndState M → ℕ → Turn M → EndOutcome (EndState M)
  answers e taken t = answers_if e taken t (left_after e.left t.counts)

  -- by how the kept bytes and the piece begin; `skipped` bytes stood before the piece. A fault
  -- closes the end
  abbrev pub cuts : EndState M → ℕ → List ℕ → Cut → EndOutcome (EndState M)
  cuts e skipped bs (Ends size) = answers e (skipped + (size - length e.kept)) (turn e.machine (take (size - 2) (e.kept ++ bs)))
  cuts e skipped bs (Bad fault) = closes e
  cuts e skipped bs More = record { after = record e { started = true; kept = e.kept ++ bs }; taken = skipped + length bs; send = [] }

  -- before the end has started: the first byte has to be 0
  abbrev pub first : EndState M → List ℕ → EndOutcome (EndState M)
  first e [] = nothing e
  first e (b ∷ bs) = if b == 0 then cuts e 1 bs (cut (e.kept ++ bs)) else closes e

  abbrev pub talks : EndState M → List ℕ → Bool → EndOutcome (EndState M)
  talks e piece true = cuts e 0 piece (cut (e.kept ++ piece))
  talks e piece false = first e piece

  -- past the handshake nothing is taken and nothing sent
  abbrev pub takes_at : EndState M → List ℕ → Status → EndOutcome (EndState M)
  takes_at e piece status.Talking = talks e piece e.started
  takes_at e piece status.Begun = nothing e
  takes_at e piece status.Closed = nothing e

  -- a call that is handed this piece
  unfoldable pub takes : EndState M → List ℕ → EndOutcome (EndState M)
  takes e piece = takes_at e piece e.status

-- ---- what an action sends, and where the end stands then

-- by how its lines are spelled, and what begins the messages
abbrev pub sends : {L : Type 0} → (L → List ℕ) → List ℕ → Action L → List ℕ
sends spelled begin (Sends line) = ended (spelled line)
sends spelled begin Begins = begin
sends spelled begin Disconnects = []

abbrev pub status_after : {L : Type 0} → Action L → Status
status_after (Sends line) = status.Talking
status_after Begins = status.Begun
status_after Disconnects = status.Closed

-- what its lines count as
abbrev pub counts_as : {L : Type 0} → (L → Counted) → Action L → Counted
counts_as kind (Sends line) = kind line
counts_as kind Begins = counted.Step
counts_as kind Disconnects = counted.Step

abbrev pub does : {L M : Type 0} → (Action L → List ℕ) → (L → Counted) → Step L M → Turn M
does sent kind step = record { next = step.next; send = sent step.action; counts = counts_as kind step.action; status = status_after step.action }

-- ---- the server's end

abbrev pub ServerEndState : Type 0
ServerEndState = EndState ServerMachine

abbrev pub server_sends : ServerAction → List ℕ
server_sends = sends server_line []

-- its lines that leave it in its state are ERROR and AGREE_UNIX_FD
abbrev pub server_counts : ServerCommand → Counted
server_counts (server.Rejected words) = counted.Rejection
server_counts (server.Error text) = counted.Stay
server_counts server.Agree = counted.Stay
server_counts _ = counted.Step

abbrev pub server_turn : ServerMachine → List ℕ → Turn ServerMachine
server_turn s line = does server_sends server_counts (server_step s (client_meaning line))

abbrev pub server_takes : ServerEndState → List ℕ → EndOutcome ServerEndState
server_takes e piece = takes server_turn e piece

-- ---- the client's end

abbrev pub ClientEndState : Type 0
ClientEndState = EndState ClientMachine

abbrev pub client_sends : ClientAction → List ℕ
client_sends = sends client_line (ended (client_line client.Begin))

-- its line that leaves it in its state is ERROR
abbrev pub client_counts : ClientCommand → Counted
client_counts (client.Error text) = counted.Stay
client_counts _ = counted.Step

abbrev pub client_turn : ClientMachine → List ℕ → Turn ClientMachine
client_turn c line = does client_sends client_counts (client_step c (server_meaning line))

-- of an end that has started
abbrev pub client_takes : ClientEndState → List ℕ → EndOutcome ClientEndState
client_takes e piece = takes client_turn e piece

-- the byte 0 and the first line; nothing if there is no mechanism
abbrev pub client_greets : ClientAction → List ℕ
client_greets = sends (λ line. 0 ∷ client_line line) []

unfoldable pub client_starts : ClientEndState → EndOutcome ClientEndState
client_starts e =
    let t = does client_greets client_counts (next_of e.machine) in
    record { after = record (after_turn t) { kept = e.kept; left = e.left }; taken = 0; send = t.send }
