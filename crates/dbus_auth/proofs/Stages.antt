-- The stages of a handshake: where the two ends and the bytes between them stand.
use Rattle.std.proofs.Common.{◌≡◌, ◌⊎◌, ℕ, ◌+◌, ◌*◌, ◌≤◌, ◌==◌, ◌&&◌, Bool, true, false, cond, List, [], ◌∷◌, ◌++◌, length, take, Option, Some, None, refl, sym, ◌∙◌, ap, arith}
use Rattle.std.specs.Prelude.{codes}
use Rattle.std.specs.List.{AllByRecursion}
use Rattle.std.proofs.lemmas.List.{append-nil}
use Rattle.std.proofs.lemmas.List.Sums.{sum_by-append}
use Rattle.std.proofs.lemmas.Bool.{ne_eqb}
use Rattle.dbus_auth_lines.specs.ClientCommands.{ClientCommand}
use Rattle.dbus_auth_lines.specs.ClientCommands as client
use Rattle.dbus_auth_lines.specs.ServerCommands.{ServerCommand}
use Rattle.dbus_auth_lines.specs.ServerCommands as server
use Rattle.dbus_auth_lines.specs.Lines.{ended, client_line, server_line}
use Rattle.dbus_auth_lines.specs.Cut.{IsPlain, IsLine, cut}
use Rattle.dbus_auth.specs.Machines.{ServerMachine, ClientMachine, ClientMechanism, auth_line, waits_in, mechanisms, IsMechanism, ServerStep, unaccepted}
use Rattle.dbus_auth.specs.Ends.{EndState, ServerEndState, ClientEndState, EndOutcome, Turn, after_turn, takes, server_takes, client_takes, nothing, closes, cuts, first, talks, takes_at, does, server_sends, server_counts, answers, answers_if, left_after}
use Rattle.dbus_auth.specs.World.{Wire, untaken, sending, taking, World, Start, To_client, Server_writes, Client_writes, client_did, server_writes, client_writes, start_once, hand_client, happens, line_ends, last_lines}
use Rattle.dbus_auth.specs.declared.bounds.Bounds.{Bounds}
use Rattle.dbus_auth.specs.declared.bounds.Counted.{Counted}
use Rattle.dbus_auth.specs.declared.end_step.Status.TheVariants as status
use Rattle.dbus_auth.specs.declared.states.ServerState.{ServerState}
use Rattle.dbus_auth.specs.declared.states.ServerState.TheVariants as at
use Rattle.dbus_auth.specs.declared.states.ClientState.{ClientState}
use Rattle.dbus_auth.specs.declared.states.ClientState.TheVariants as now
use Rattle.dbus_auth.proofs.Sides.{Carries, Side, Quiet, Took, Quiet-sending, Quiet-nil, Side-nil, stays}
use Rattle.dbus_auth.specs.declared.end_step.Status.{Status}

-- ---- lines are counted by their ends

pub line_ends-append : (xs ys : List ℕ) → line_ends (xs ++ ys) ≡ line_ends xs + line_ends ys
line_ends-append xs ys = sum_by-append (λ b. cond (b == 10) 1 0) xs ys

pub plain_has_none : (line : List ℕ) → AllByRecursion IsPlain line → line_ends line ≡ 0
plain_has_none [] h = refl
plain_has_none (b ∷ bs) h =
    let one : line_ends (b ∷ []) ≡ 0 = (let e : (b == 10) ≡ false = ne_eqb b 10 h.0.not_lf in rw e) in
    omega (arith, line_ends-append (b ∷ []) bs, one, plain_has_none bs h.1)

pub line_ends-ended : (line : List ℕ) → IsLine line → line_ends (ended line) ≡ 1
line_ends-ended line h = omega (arith, line_ends-append line (13 ∷ 10 ∷ []), plain_has_none line h.plain)

pub line_ends-more : (said send line : List ℕ) → send ≡ ended line → IsLine line → line_ends (said ++ send) ≡ line_ends said + 1
line_ends-more said send line e h = omega (arith, line_ends-append said send, ap line_ends e, line_ends-ended line h)

pub line_ends-same : (said send : List ℕ) → send ≡ [] → line_ends (said ++ send) ≡ line_ends said
line_ends-same said send e = omega (arith, line_ends-append said send, ap line_ends e)

-- ---- what an end does with a piece of what comes to it

abbrev pub served : World → ℕ → EndOutcome ServerEndState
served w n = server_takes w.server (take n (untaken w.to_server))

abbrev pub heard : World → ℕ → EndOutcome ClientEndState
heard w n = client_takes w.client (take n (untaken w.to_client))

-- ---- a line on its way

-- to an end that had started or not, while the other end waits for its answer
pub record OnWay {M N : Type 0} (to : EndState M) (wire : Wire) (m : M) (z : Bool) (line : List ℕ) (from : EndState N) (back : Wire) (n : N) : Type 0 where
  pub to_come : Side to wire m z (ended line ++ [])
  pub waiting : Quiet from back n true

-- a machine answers by a line
abbrev pub says : {M : Type 0} → Counted → M → List ℕ → Turn M
says c m line = record { next = m; send = ended line; counts = c; status = status.Talking }

module _ {M N : Type 0} {to : EndState M} {wire : Wire} {m : M} {z : Bool} {line : List ℕ} {from : EndState N} {back : Wire} {n : N} where
  -- more of the line is wanted
  pub still : {after : EndState M} {past : Wire} {now : Bool} {send : List ℕ} → OnWay to wire m z line from back n → Side after past m now (ended line ++ []) → send ≡ [] → OnWay after past m now line from (sending back send) n
  still a side nil = record { to_come = side; waiting = Quiet-nil nil a.waiting }

  -- the other end is handed a piece
  pub waits_still : (turn : N → List ℕ → Turn N) (k : ℕ) → OnWay to wire m z line from back n
      → ((takes turn from (take k (untaken back))).send ≡ [])
      × OnWay to (sending wire (takes turn from (take k (untaken back))).send) m z line (takes turn from (take k (untaken back))).after (taking back (takes turn from (take k (untaken back))).taken) n
  waits_still turn k a =
      let q = stays turn k a.waiting in
      (q.send, record { to_come = Side-nil q.send a.to_come; waiting = q.quiet })

  pub both_talk : OnWay to wire m z line from back n → (to.status ≡ status.Talking) × (from.status ≡ status.Talking) × (to.started ≡ z) × (from.started ≡ true)
  both_talk a = (a.to_come.talking, ap (λ (x : EndState N). x.status) a.waiting.end, a.to_come.started, ap (λ (x : EndState N). x.started) a.waiting.end)

-- the end took its line, and answers by another
pub answers_by : {M N : Type 0} {outcome : EndOutcome (EndState M)} {wire : Wire} {t : Turn M} {from : EndState N} {back : Wire} {n : N} {c : Counted}
    → Quiet from back n true → Took outcome wire t [] → (reply : List ℕ) (next : M) → t ≡ says c next reply
    → OnWay from (sending back outcome.send) n true reply outcome.after (taking wire outcome.taken) next
answers_by {M = M} q t reply next is = record {
  to_come = Quiet-sending (ended reply ++ []) q (t.send ∙ ap (λ (x : Turn M). x.send) is ∙ sym (append-nil (ended reply)));
  waiting = record { end = t.after ∙ ap after_turn is; carries = t.carries };
}

-- ---- the stages of a handshake

-- a server that has not agreed, and one that waits for BEGIN and has agreed or not
abbrev pub at_state : ServerMachine → ServerState → ServerMachine
at_state s state = record s { state = state; agreed = false }

abbrev pub let_in : ServerMachine → Bool → ServerMachine
let_in s agreed = record s { state = at.WaitingForBegin; agreed = agreed }

-- a client that no server has accepted, and one that asked for descriptors after that
abbrev pub talks_as : ClientMachine → ClientState → List ClientMechanism → ClientMachine
talks_as made state left = unaccepted made.descriptors state left

abbrev pub wants_agree : ClientMachine → List ClientMechanism → List ℕ → ClientMachine
wants_agree made left guid = record { state = now.WaitingForAgree; left = left; descriptors = made.descriptors; guid = Some guid; agreed = false }

abbrev pub has_begun : ClientMachine → List ClientMechanism → List ℕ → Bool → ClientMachine
has_begun made left guid agreed = record { state = now.Begun; left = left; descriptors = made.descriptors; guid = Some guid; agreed = agreed }

-- what a server that passes descriptors, or passes none, answers to NEGOTIATE_UNIX_FD
abbrev pub answer_to_ask : Bool → ServerCommand
answer_to_ask true = server.Agree
answer_to_ask false = server.Error []

-- what both know at the end
abbrev pub agree : ServerMachine → ClientMachine → Bool
agree s made = s.descriptors && made.descriptors

-- neither caller may send yet
pub record Unsaid (client_wrote server_wrote : List ℕ) : Type 0 where
  pub client : client_wrote ≡ []
  pub server : server_wrote ≡ []

abbrev pub ToServer : World → ServerMachine → Bool → ClientCommand → ClientMachine → Type 0
ToServer w s z line c = OnWay w.server w.to_server s z (client_line line) w.client w.to_client c

abbrev pub ToClient : World → ClientMachine → ServerCommand → ServerMachine → Type 0
ToClient w c line s = OnWay w.client w.to_client c true (server_line line) w.server w.to_server s

abbrev pub IsAwaiting : ClientState → Type 0
IsAwaiting state = (state ≡ now.WaitingForOk) ⊎ (state ≡ now.WaitingForData)

-- a line is on its way. s, made: the server and the client as they were made
pub data Exchange (s : ServerMachine) (made : ClientMachine) (w : World) : Type 0 where
  asked : (z : Bool) (m : ClientMechanism) (left : List ClientMechanism) → IsMechanism m → AllByRecursion IsMechanism left
      → line_ends w.client_said + 2 * length left + 1 ≤ 2 * length made.left
      → ToServer w (at_state s at.WaitingForAuth) z (auth_line m) (talks_as made (waits_in m) left) → Exchange s made w
  gave_data : (left : List ClientMechanism) → AllByRecursion IsMechanism left
      → line_ends w.client_said + 2 * length left ≤ 2 * length made.left
      → ToServer w (at_state s at.WaitingForData) true (client.DataOf []) (talks_as made now.WaitingForOk left) → Exchange s made w
  rejected : (state : ClientState) (left : List ClientMechanism) → IsAwaiting state → AllByRecursion IsMechanism left
      → line_ends w.client_said + 2 * length left ≤ 2 * length made.left
      → ToClient w (talks_as made state left) (server.Rejected (mechanisms s)) (at_state s at.WaitingForAuth) → Exchange s made w
  accepted : (state : ClientState) (left : List ClientMechanism) → IsAwaiting state
      → line_ends w.client_said ≤ 2 * length made.left
      → ToClient w (talks_as made state left) (server.Accepted s.guid) (at_state s at.WaitingForBegin) → Exchange s made w
  wants_data : (left : List ClientMechanism) → AllByRecursion IsMechanism left
      → line_ends w.client_said + 2 * length left + 1 ≤ 2 * length made.left
      → ToClient w (talks_as made now.WaitingForData left) (server.DataOf []) (at_state s at.WaitingForData) → Exchange s made w
  asks_descriptors : (left : List ClientMechanism) → made.descriptors ≡ true → line_ends w.client_said ≤ 2 * length made.left + 1
      → ToServer w (at_state s at.WaitingForBegin) true client.Negotiate (wants_agree made left s.guid) → Exchange s made w
  answers_ask : (left : List ClientMechanism) → made.descriptors ≡ true → line_ends w.client_said ≤ 2 * length made.left + 1
      → ToClient w (wants_agree made left s.guid) (answer_to_ask s.descriptors) (let_in s s.descriptors) → Exchange s made w

-- the client has begun
pub record HasBegun (e : ClientEndState) (guid : List ℕ) (agreed : Bool) : Type 0 where
  pub status : e.status ≡ status.Begun
  pub started : e.started ≡ true
  pub guid_is : e.machine.guid ≡ Some guid
  pub agreed_is : e.machine.agreed ≡ agreed

pub record ClientBegan (e : ClientEndState) (wire : Wire) (server_wrote guid : List ℕ) (agreed : Bool) : Type 0 where
  pub end : HasBegun e guid agreed
  pub carries : Carries wire server_wrote

pub record ServerBegan (e : ServerEndState) (wire : Wire) (client_wrote : List ℕ) (agreed : Bool) : Type 0 where
  pub status : e.status ≡ status.Begun
  pub state_is : e.machine.state ≡ at.Begun
  pub agreed_is : e.machine.agreed ≡ agreed
  pub carries : Carries wire client_wrote

-- a server whose client has begun: BEGIN is on its way, or was taken
pub data Follows (s : ServerMachine) (agreed : Bool) (w : World) : Type 0 where
  confirming : Side w.server w.to_server (let_in s agreed) true (ended (codes "BEGIN") ++ w.client_wrote) → w.server_wrote ≡ [] → Follows s agreed w
  both : ServerBegan w.server w.to_server w.client_wrote agreed → Follows s agreed w

pub record ClientClosed (e : ClientEndState) (wire : Wire) : Type 0 where
  pub status : e.status ≡ status.Closed
  pub started : e.started ≡ true
  pub carries : Carries wire []

pub record Fresh (s : ServerMachine) (made : ClientMachine) (w : World) : Type 0 where
  pub server : Quiet w.server w.to_server (at_state s at.WaitingForAuth) false
  pub client : Quiet w.client w.to_client (talks_as made now.Fresh made.left) false
  pub said : w.client_said ≡ []
  pub unsaid : Unsaid w.client_wrote w.server_wrote

pub data Stage (s : ServerMachine) (made : ClientMachine) (w : World) : Type 0 where
  fresh : Fresh s made w → Stage s made w
  speaks : Exchange s made w → Unsaid w.client_wrote w.server_wrote → Stage s made w
  began : line_ends w.client_said ≤ 2 * length made.left + last_lines made → ClientBegan w.client w.to_client w.server_wrote s.guid (agree s made) → Follows s (agree s made) w → Stage s made w
  over : (z : Bool) → line_ends w.client_said ≤ 2 * length made.left + last_lines made
      → Quiet w.server w.to_server (at_state s at.WaitingForAuth) z → ClientClosed w.client w.to_client → Unsaid w.client_wrote w.server_wrote → Stage s made w

-- ---- events that change nothing

pub start_same : (w : World) → w.client.started ≡ true → happens w Start ≡ w
start_same w h = ap (start_once w) h

pub server_mute : (w : World) (bytes : List ℕ) → w.server.status ≡ status.Talking → happens w (Server_writes bytes) ≡ w
server_mute w bytes h = ap (server_writes w bytes) h

pub client_mute : (w : World) (bytes : List ℕ) → w.client.status ≡ status.Talking → happens w (Client_writes bytes) ≡ w
client_mute w bytes h = ap (client_writes w bytes) h

pub client_mute_closed : (w : World) (bytes : List ℕ) → w.client.status ≡ status.Closed → happens w (Client_writes bytes) ≡ w
client_mute_closed w bytes h = ap (client_writes w bytes) h

pub to_client_of : (w : World) (n : ℕ) → w.client.started ≡ true → happens w (To_client n) ≡ client_did w (client_takes w.client (take n (untaken w.to_client)))
to_client_of w n h = ap (hand_client w n) h

-- What holds of each outcome of an end: it stays, closes, or cuts what it keeps and is handed.

-- what a server's end does by a step
abbrev pub server_answers : ServerStep → Turn ServerMachine
server_answers = does server_sends server_counts

module _ {M : Type 0} (turn : M → List ℕ → Turn M) (P : EndOutcome (EndState M) → Type 0) (e : EndState M) (stays : P (nothing e)) (shuts : P (closes e))
    (goes_on : (skipped : ℕ) (q : List ℕ) → P (cuts turn e skipped q (cut (e.kept ++ q)))) where
  by_zero : (q : List ℕ) (t : Bool) → P (cond t (cuts turn e 1 q (cut (e.kept ++ q))) (closes e))
  by_zero q true = goes_on 1 q
  by_zero q false = shuts

  by_first : (p : List ℕ) → P (first turn e p)
  by_first [] = stays
  by_first (b ∷ q) = by_zero q (b == 0)

  by_talk : (p : List ℕ) (z : Bool) → P (talks turn e p z)
  by_talk p true = goes_on 0 p
  by_talk p false = by_first p

  by_status : (p : List ℕ) (st : Status) → P (takes_at turn e p st)
  by_status p status.Talking = by_talk p e.started
  by_status p status.Begun = stays
  by_status p status.Closed = stays

  pub takes_by : (p : List ℕ) → P (takes turn e p)
  unfolding takes
  takes_by p = by_status p e.status

-- And of an answer: it is sent, or the end closes.
module _ {M : Type 0} (turn : M → List ℕ → Turn M) (P : EndOutcome (EndState M) → Type 0) (e : EndState M) (taken : ℕ) (t : Turn M) (shuts : P (closes e))
    (says : (left : Option Bounds) → P (answers_if turn e taken t (Some left))) where
  by_left : (left : Option (Option Bounds)) → P (answers_if turn e taken t left)
  by_left None = shuts
  by_left (Some left) = says left

  pub answers_as : P (answers turn e taken t)
  answers_as = by_left (left_after e.left t.counts)
