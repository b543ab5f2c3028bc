-- What is told by numbers to one who looks on at a handshake. D-Bus Specification, "Authentication
-- Protocol".
use Rattle.std.specs.Prelude.{◌≡◌, ℕ, ◌==◌, true, List, [], ◌∷◌, MatchBool, Result, Ok, Err, if◌then◌else◌}
use Rattle.dbus_auth_lines.specs.Cut.{BadByte, Beginning, WholeLine, Faulty, Unfinished}
use Rattle.dbus_auth_lines.specs.Lines.{client_meaning, server_meaning}
use Rattle.dbus_auth_lines.specs.WrittenLines.{IsExactClientLine, IsExactServerLine}
use Rattle.dbus_auth.specs.declared.states.ServerState.{ServerState}
use Rattle.dbus_auth.specs.declared.states.ServerState.TheVariants as at
use Rattle.dbus_watch.specs.Watches.{WatchState, passed_to_client, passed_to_server, refused}
use Rattle.dbus_watch.specs.WatchViews.{DidPass}
use Rattle.dbus_watch.specs.declared.watch.Passage.{Passage}
use Rattle.dbus_watch.specs.declared.watch.Passage.TheVariants as passage
use Rattle.dbus_watch.specs.declared.watch.WatchFault.{WatchFault}
use Rattle.dbus_c.specs.Handshakes.{HasClientLine, HasServerLine, fault_told, line_told, nothing_told, nowhere}
use Rattle.dbus_c.specs.declared.answers.TheConstants.{WHOLE, PARTIAL, REFUSED, NO_VALUE, WAITS}
use Rattle.dbus_c.specs.declared.handshake_lines.HandshakeLine.{HandshakeLine}
use Rattle.dbus_c.specs.declared.line_command.TheConstants as command
use Rattle.dbus_c.specs.declared.watching.HandshakeWatch.{HandshakeWatch}

-- the server's state by its number; any other one stands for Closed
abbrev pub state_numbered : ℕ → ServerState
state_numbered n =
    if n == 0 then at.WaitingForAuth
    else if n == 1 then at.WaitingForData
    else if n == 2 then at.WaitingForBegin
    else if n == 3 then at.Begun
    else at.Closed

abbrev pub watch_in : HandshakeWatch → WatchState
watch_in w = record { server = state_numbered w.server; unanswered = w.unanswered; asked = w.asked }

-- what becomes of a line, by its number
abbrev pub passage_number : Result Passage WatchFault → ℕ
passage_number (Ok passage.Passes) = WHOLE
passage_number (Ok passage.Begins) = WHOLE
passage_number (Ok passage.Waits) = WAITS
passage_number (Err fault) = REFUSED

-- a line of each side, as a watch looks at it
abbrev pub ClientPasses : WatchState → List ℕ → Result Passage WatchFault → WatchState → Type 0
ClientPasses w line result after =
    (IsExactClientLine line → DidPass result after (passed_to_server w (client_meaning line))) × ((IsExactClientLine line → ⊥) → DidPass result after (refused w))

abbrev pub ServerPasses : WatchState → List ℕ → Result Passage WatchFault → WatchState → Type 0
ServerPasses w line result after =
    (IsExactServerLine line → DidPass result after (passed_to_client w (server_meaning line))) × ((IsExactServerLine line → ⊥) → DidPass result after (refused w))

-- a line is told, with what becomes of it
pub record IsLookedAt (Has : HandshakeLine → Type 0) (Passes : Result Passage WatchFault → WatchState → Type 0) (answer : ℕ) (told : HandshakeLine) (old new : HandshakeWatch) : Type 0 where
  pub result : Result Passage WatchFault
  pub passed : Passes result (watch_in new)
  pub is_answer : answer ≡ passage_number result
  pub has : Has told
  pub started : new.started ≡ old.started

-- by how the bytes begin; a fault ends the watch
abbrev pub Looks : (Has : List ℕ → HandshakeLine → Type 0) (Passes : WatchState → List ℕ → Result Passage WatchFault → WatchState → Type 0)
    → Beginning → ℕ → HandshakeLine → HandshakeWatch → HandshakeWatch → Type 0
Looks Has Passes (WholeLine line) answer told old new = IsLookedAt (Has line) (Passes (watch_in old) line) answer told old new
Looks Has Passes (Faulty f) answer told old new = (answer ≡ REFUSED) × (told ≡ fault_told f) × (new ≡ record old { server = 4 })
Looks Has Passes Unfinished answer told old new = (answer ≡ PARTIAL) × (told ≡ nothing_told) × (new ≡ old)

abbrev pub LooksAtClient : Beginning → ℕ → HandshakeLine → HandshakeWatch → HandshakeWatch → Type 0
LooksAtClient = Looks HasClientLine ClientPasses

abbrev pub LooksAtServer : Beginning → ℕ → HandshakeLine → HandshakeWatch → HandshakeWatch → Type 0
LooksAtServer = Looks HasServerLine ServerPasses

-- the byte 0 that a client sends before its lines
abbrev pub nul_told : HandshakeLine
nul_told = line_told 1 true command.NUL nowhere nowhere

abbrev pub Starts : List ℕ → ℕ → HandshakeLine → HandshakeWatch → HandshakeWatch → Type 0
Starts [] answer told old new = (answer ≡ PARTIAL) × (told ≡ nothing_told) × (new ≡ old)
Starts (b ∷ bs) answer told old new =
    MatchBool (b == 0) ((answer ≡ WHOLE) × (told ≡ nul_told) × (new ≡ record old { started = 1 }))
    ((answer ≡ REFUSED) × (told ≡ fault_told (BadByte 0)) × (new ≡ record old { server = 4 }))

-- past the handshake: messages, or nothing more
abbrev pub over_number : ServerState → ℕ
over_number at.Begun = NO_VALUE
over_number _ = REFUSED

pub record IsOver (answer : ℕ) (told : HandshakeLine) (old new : HandshakeWatch) : Type 0 where
  pub is_answer : answer ≡ over_number (watch_in old).server
  pub nothing : told ≡ nothing_told
  pub same : new ≡ old
