-- What one knows who looks on at a handshake, and what becomes of each line. D-Bus Specification,
-- "Authentication Protocol", "Authentication state diagrams".
use Rattle.std.specs.Prelude.{ℕ, ◌+◌, ◌-◌, ◌==◌, ◌≡◌, ◌≢◌, Bool, true, false, ◌&&◌, List, [], ◌∷◌, ◌++◌, codes, Result, Ok, Err, if◌then◌else◌}
use Rattle.std.specs.List.{AllByRecursion}
use Rattle.dbus_auth_lines.specs.ClientCommands.{ClientCommand}
use Rattle.dbus_auth_lines.specs.ClientCommands as client
use Rattle.dbus_auth_lines.specs.ServerCommands.{ServerCommand}
use Rattle.dbus_auth_lines.specs.ServerCommands as server
use Rattle.dbus_auth_lines.specs.Lines.{client_meaning, server_meaning}
use Rattle.dbus_auth_lines.specs.WrittenLines.{IsExactClientLine, IsExactServerLine}
use Rattle.dbus_auth.specs.declared.states.ServerState.{ServerState}
use Rattle.dbus_auth.specs.declared.states.ServerState.TheVariants as at
use Rattle.dbus_watch.specs.declared.watch.Passage.{Passage}
use Rattle.dbus_watch.specs.declared.watch.Passage.TheVariants as passage
use Rattle.dbus_watch.specs.declared.watch.WatchFault.{WatchFault}
use Rattle.dbus_watch.specs.declared.watch.WatchFault.TheVariants as fault

pub record WatchState : Type 0 where
  -- the server's state, as its answers tell it
  pub server : ServerState
  -- how many of the client's lines the server has still to answer
  pub unanswered : ℕ
  -- which of these is NEGOTIATE_UNIX_FD, the first one if there are several, counted from 1; 0: none
  pub asked : ℕ

abbrev pub at_first : WatchState
at_first = record { server = at.WaitingForAuth; unanswered = 0; asked = 0 }

-- what becomes of a line, and what is known then
pub record Passed : Type 0 where
  pub answer : Result Passage WatchFault
  pub after : WatchState

-- the state in which an answer leaves the server; ERROR and AGREE_UNIX_FD leave it as it is
abbrev pub answered : ServerCommand → ServerState → ServerState
answered (server.Rejected words) state = at.WaitingForAuth
answered (server.Accepted guid) state = at.WaitingForBegin
answered (server.DataOf bytes) state = at.WaitingForData
answered _ state = state

abbrev pub passes : WatchState → Passed
passes w = record { answer = Ok passage.Passes; after = w }

abbrev pub refuses : WatchState → WatchFault → Passed
refuses w reason = record { answer = Err reason; after = record w { server = at.Closed } }

-- BEGIN, once all lines before it are answered
abbrev pub begins_at : WatchState → ServerState → Passed
begins_at w at.WaitingForBegin = record { answer = Ok passage.Begins; after = record w { server = at.Begun } }
begins_at w _ = refuses w fault.NotAccepted

abbrev pub begins : WatchState → Passed
begins w = if w.unanswered == 0 then begins_at w w.server else record { answer = Ok passage.Waits; after = w }

-- a line that the server is to answer, which asks for descriptors or not
abbrev pub asked_after : WatchState → Bool → ℕ
asked_after w descriptors = if descriptors && w.asked == 0 then w.unanswered + 1 else w.asked

abbrev pub asks : WatchState → Bool → Passed
asks w descriptors =
    if w.unanswered == 4294967295 then refuses w fault.TooMany
    else passes (record w { unanswered = w.unanswered + 1; asked = asked_after w descriptors })

-- what answers NEGOTIATE_UNIX_FD; a client disconnects at anything else. "Client states",
-- "WaitingForAgreeUnixFD"
abbrev pub settles : ServerCommand → Bool
settles server.Agree = true
settles (server.Error text) = true
settles _ = false

-- an answer of the server
abbrev pub answers_next : WatchState → ServerCommand → Bool → Passed
answers_next w said true = passes (record { server = answered said w.server; unanswered = w.unanswered - 1; asked = w.asked - 1 })
answers_next w said false = refuses w fault.NotSettled

abbrev pub answers : WatchState → ServerCommand → Passed
answers w said =
    if w.unanswered == 0 then refuses w fault.Unasked
    else answers_next w said (if w.asked == 1 then settles said else true)

abbrev pub says : WatchState → ClientCommand → Passed
says w client.Begin = begins w
says w client.Negotiate = asks w true
says w _ = asks w false

-- past the handshake no line is passed
abbrev pub if_talking : WatchState → ServerState → Passed → Passed
if_talking w at.Begun passed = record { answer = Err fault.Over; after = w }
if_talking w at.Closed passed = record { answer = Err fault.Over; after = w }
if_talking w _ passed = passed

-- an exact line of the client, one of the server, and a line of either that is not exact
abbrev pub passed_to_server : WatchState → ClientCommand → Passed
passed_to_server w said = if_talking w w.server (says w said)

abbrev pub passed_to_client : WatchState → ServerCommand → Passed
passed_to_client w said = if_talking w w.server (answers w said)

abbrev pub refused : WatchState → Passed
refused w = if_talking w w.server (refuses w fault.Inexact)

-- ---- the lines of both sides, in the order in which they come

pub data Seen : Type 0 where
  FromClient : (line : List ℕ) → Seen
  FromServer : (line : List ℕ) → Seen

abbrev pub client_lines : List Seen → List (List ℕ)
client_lines [] = []
client_lines (FromClient line ∷ more) = line ∷ client_lines more
client_lines (FromServer line ∷ more) = client_lines more

abbrev pub server_lines : List Seen → List (List ℕ)
server_lines [] = []
server_lines (FromClient line ∷ more) = server_lines more
server_lines (FromServer line ∷ more) = line ∷ server_lines more

-- all of them are exact and pass, which leaves this
abbrev pub PassesAll : WatchState → List Seen → WatchState → Type 0
PassesAll w [] last = w ≡ last
PassesAll w (FromClient line ∷ more) last = (next : WatchState) × (IsExactClientLine line × (passed_to_server w (client_meaning line) ≡ passes next) × PassesAll next more last)
PassesAll w (FromServer line ∷ more) last = (next : WatchState) × (IsExactServerLine line × (passed_to_client w (server_meaning line) ≡ passes next) × PassesAll next more last)

-- ---- a server as some program may be it

-- what it does on a line
pub data Reading : Type 0 where
  Answers : (line : List ℕ) → Reading
  Begins : Reading
  Ends : Reading

-- by the lines that it read before
abbrev pub Reader : Type 0
Reader = List (List ℕ) → List ℕ → Reading

-- it answers each of these lines
abbrev pub AnswersAll : Reader → (before lines said : List (List ℕ)) → Type 0
AnswersAll reads before [] [] = Unit {0}
AnswersAll reads before (line ∷ lines) (said ∷ more) = (reads before line ≡ Answers said) × AnswersAll reads (before ++ line ∷ []) lines more
AnswersAll reads before _ _ = ⊥

-- the server's state after these answers
abbrev pub told : List (List ℕ) → ServerState → ServerState
told [] state = state
told (line ∷ lines) state = told lines (answered (server_meaning line) state)

-- All that is asked of it: of exact lines, BEGIN alone begins messages; and once its answers say
-- that it has accepted the client, it reads no line after BEGIN. It may read other lines as it
-- likes.
pub record IsReader (reads : Reader) : Type 0 where
  pub only_begin : (before : List (List ℕ)) (line : List ℕ) → IsExactClientLine line → reads before line ≡ Begins → client_meaning line ≡ client.Begin
  pub begin : (before said : List (List ℕ)) → AllByRecursion IsExactClientLine before → AnswersAll reads [] before said
      → told said at.WaitingForAuth ≡ at.WaitingForBegin → (line : List ℕ) → reads before (codes "BEGIN") ≢ Answers line

-- it has answered all lines before BEGIN, so it began at none of them, and it reads none after it
pub record BeginsAtBegin (reads : Reader) (lines said : List (List ℕ)) : Type 0 where
  pub before : AnswersAll reads [] lines said
  pub there : (line : List ℕ) → reads lines (codes "BEGIN") ≢ Answers line
