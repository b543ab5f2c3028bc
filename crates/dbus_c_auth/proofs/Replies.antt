-- What an end sends is short, and it stays an end of the same server or of a client of some
-- mechanisms.
use Rattle.std.proofs.Common.{◌≡◌, ℕ, ◌+◌, ◌^◌, ◌<◌, ◌≤◌, ◌&&◌, ◌||◌, Bool, true, false, List, [], ◌∷◌, ◌++◌, length, Option, Some, None, if◌then◌else◌, refl, sym, ap, ◌∙◌, subst, arith, lit≤, length-append}
use Rattle.std.specs.Prelude.{codes, bytes_eq, decimal, take, ◌-◌, Result, Ok, Err, IfOk, OnErr}
use Rattle.std.specs.List.{AllByRecursion}
use Rattle.std.proofs.lemmas.Fmt.{length-decimal-le}
use Rattle.dbus_auth_lines.specs.ClientCommands.{ClientCommand}
use Rattle.dbus_auth_lines.specs.ClientCommands as client
use Rattle.dbus_auth_lines.specs.ServerCommands.{ServerCommand}
use Rattle.dbus_auth_lines.specs.ServerCommands as server
use Rattle.dbus_auth_lines.specs.Lines.{hex_word, server_line, client_line, ended, crlf, client_meaning, server_meaning}
use Rattle.dbus_auth_lines.specs.Cut.{Cut, Ends, Bad, More, cut}
use Rattle.dbus_auth_lines.proofs.PrintedWords.{length-hex_word}
use Rattle.dbus_auth.specs.Machines.{ServerMachine, ServerStep, IsServer, server_step, server_step_at, by_mechanism, rejects, accepts, replies, is_user, is_empty, offers_external, external_words, ClientMachine, ClientMechanism, External, Anonymous, ClientStep, client_step, client_step_at, auth_line, next_among, IsMechanism}
use Rattle.dbus_auth.specs.Ends.{EndState, ServerEndState, ClientEndState, EndOutcome, Turn, cuts, takes, server_sends, server_turn, server_takes, client_sends, client_turn, client_greets, client_starts, status_after}
use Rattle.dbus_auth.proofs.Stages.{answers_as, takes_by}
use Rattle.dbus_c_auth.specs.Handshakes.{client_goes_on, client_goes_on_at}
use Rattle.dbus_auth.specs.declared.states.ServerState.{ServerState}
use Rattle.dbus_auth.specs.declared.states.ServerState.TheVariants as at
use Rattle.dbus_auth.specs.declared.states.ClientState.{ClientState}
use Rattle.dbus_auth.specs.declared.states.ClientState.TheVariants as now
use Rattle.dbus_auth.specs.declared.end_step.Status.TheVariants as status
use Rattle.dbus_c_auth.specs.declared.step.TheConstants.{REPLY_ROOM}

-- a step sends little, and leaves a server of the laws
abbrev pub Short : ServerStep → Type 0
Short step = (length (server_sends step.action) ≤ REPLY_ROOM) × IsServer step.next

either : (b : Bool) (x y : ServerStep) → Short x → Short y → Short (if b then x else y)
either true x y p q = p
either false x y p q = q

three : (p q r : Bool) (d a n : ServerStep) → Short d → Short a → Short n → Short (if p then d else if q then a else if r then a else n)
three true q r d a n x y z = x
three false true r d a n x y z = y
three false false r d a n x y z = either r a n y z

rejected : (user : Option ℕ) (anonymous : Bool) → length (ended (server_line (server.Rejected (external_words user ++ (if anonymous then codes "ANONYMOUS" ∷ [] else []))))) ≤ REPLY_ROOM
rejected None true = lit≤ tt
rejected None false = lit≤ tt
rejected (Some n) true = lit≤ tt
rejected (Some n) false = lit≤ tt

module _ (s : ServerMachine) (is : IsServer s) where
  server_is : (state : ServerState) (agreed : Bool) → IsServer (record s { state = state; agreed = agreed })
  server_is state agreed = record { guid = is.guid; bytes = is.bytes; user = is.user }

  no : Short (rejects s)
  no = (rejected s.user s.anonymous, server_is at.WaitingForAuth false)

  yes : Short (accepts s)
  yes = (omega (arith, is.guid, length-append (hex_word s.guid) crlf, length-hex_word s.guid), server_is at.WaitingForBegin false)

  named : (mech response : List ℕ) → Short (by_mechanism s mech response)
  named mech response =
      let external = bytes_eq mech (codes "EXTERNAL") in
      three (external && offers_external s.user && is_empty response) (external && is_user s.user response)
      (bytes_eq mech (codes "ANONYMOUS") && s.anonymous) (replies s (server.DataOf []) at.WaitingForData) (accepts s) (rejects s) (lit≤ tt, server_is at.WaitingForData false) yes no

  short_at : (state : ServerState) (line : ClientCommand) → Short (server_step_at s state line)
  short_at at.WaitingForAuth (client.AuthBy mech response) = named mech response
  short_at at.WaitingForAuth client.Auth = no
  short_at at.WaitingForAuth (client.Error text) = no
  short_at at.WaitingForAuth client.Begin = (lit≤ tt, server_is at.Closed false)
  short_at at.WaitingForAuth client.Cancel = (lit≤ tt, is)
  short_at at.WaitingForAuth (client.DataOf bytes) = (lit≤ tt, is)
  short_at at.WaitingForAuth client.Negotiate = (lit≤ tt, is)
  short_at at.WaitingForAuth client.Other = (lit≤ tt, is)
  short_at at.WaitingForData (client.DataOf bytes) = either (is_empty bytes || is_user s.user bytes) (accepts s) (rejects s) yes no
  short_at at.WaitingForData client.Cancel = no
  short_at at.WaitingForData (client.Error text) = no
  short_at at.WaitingForData client.Begin = (lit≤ tt, server_is at.Closed false)
  short_at at.WaitingForData client.Auth = (lit≤ tt, is)
  short_at at.WaitingForData (client.AuthBy mech response) = (lit≤ tt, is)
  short_at at.WaitingForData client.Negotiate = (lit≤ tt, is)
  short_at at.WaitingForData client.Other = (lit≤ tt, is)
  short_at at.WaitingForBegin client.Begin = (lit≤ tt, server_is at.Begun s.agreed)
  short_at at.WaitingForBegin client.Cancel = no
  short_at at.WaitingForBegin (client.Error text) = no
  short_at at.WaitingForBegin client.Auth = (lit≤ tt, is)
  short_at at.WaitingForBegin (client.AuthBy mech response) = (lit≤ tt, is)
  short_at at.WaitingForBegin (client.DataOf bytes) = (lit≤ tt, is)
  short_at at.WaitingForBegin client.Negotiate = either s.descriptors _ _ (lit≤ tt, server_is at.WaitingForBegin true) (lit≤ tt, is)
  short_at at.WaitingForBegin client.Other = (lit≤ tt, is)
  short_at at.Begun line = (lit≤ tt, is)
  short_at at.Closed line = (lit≤ tt, is)

-- ---- an end

-- a call of an end sends little, and leaves a machine of this kind
pub record Reply {M : Type 0} (P : M → Type 0) (outcome : EndOutcome (EndState M)) : Type 0 where
  pub fits : length outcome.send ≤ REPLY_ROOM
  pub machine : P outcome.after.machine

module _ {M : Type 0} (turn : M → List ℕ → Turn M) (P : M → Type 0) (short : (m : M) (line : List ℕ) → P m → (length (turn m line).send ≤ REPLY_ROOM) × P (turn m line).next)
    (e : EndState M) (is : P e.machine) where
  at_cut : (skipped : ℕ) (bs : List ℕ) (how : Cut) → Reply P (cuts turn e skipped bs how)
  at_cut skipped bs (Ends size) =
      let line = take (size - 2) (e.kept ++ bs) in
      let s = short e.machine line is in
      answers_as turn (Reply P) e (skipped + (size - length e.kept)) (turn e.machine line) (record { fits = lit≤ tt; machine = is }) (λ left. record { fits = s.0; machine = s.1 })
  at_cut skipped bs (Bad fault) = record { fits = lit≤ tt; machine = is }
  at_cut skipped bs More = record { fits = lit≤ tt; machine = is }

  end_reply : (piece : List ℕ) → Reply P (takes turn e piece)
  end_reply piece =
      takes_by turn (Reply P) e (record { fits = lit≤ tt; machine = is }) (record { fits = lit≤ tt; machine = is }) (λ skipped bs. at_cut skipped bs (cut (e.kept ++ bs))) piece

server_short : (s : ServerMachine) (line : List ℕ) → IsServer s → (length (server_turn s line).send ≤ REPLY_ROOM) × IsServer (server_turn s line).next
unfolding server_step
server_short s line is = short_at s is s.state (client_meaning line)

pub server_reply : (e : ServerEndState) → IsServer e.machine → (piece : List ℕ) → Reply IsServer (server_takes e piece)
server_reply = end_reply server_turn IsServer server_short

-- ---- a client

-- a step sends little, and what is left to try are mechanisms
abbrev pub Tries : ClientStep → Type 0
Tries step = (length (client_sends step.action) ≤ 527) × AllByRecursion IsMechanism step.next.left

auth_short : (m : ClientMechanism) → IsMechanism m → length (ended (client_line (auth_line m))) ≤ 527
auth_short (External None) h = lit≤ tt
auth_short (External (Some n)) h =
    let small : n < 2 ^ 64 = omega (arith, h) in
    omega (arith, length-append (hex_word (decimal n)) crlf, length-hex_word (decimal n), length-decimal-le 20 n (omega arith) (omega arith) small)
auth_short (Anonymous trace) h = omega (arith, length-append (hex_word trace) crlf, length-hex_word trace, h.0)

tries_next : (descriptors : Bool) (left : List ClientMechanism) → AllByRecursion IsMechanism left → Tries (next_among descriptors left)
tries_next descriptors [] h = (lit≤ tt, tt)
tries_next descriptors (m ∷ ms) h = (auth_short m h.0, h.1)

tries_either : (b : Bool) (x y : ClientStep) → Tries x → Tries y → Tries (if b then x else y)
tries_either true x y p q = p
tries_either false x y p q = q

module _ (c : ClientMachine) (h : AllByRecursion IsMechanism c.left) where
  tries_at : (state : ClientState) (line : ServerCommand) → Tries (client_step_at c state line)
  tries_at now.WaitingForData (server.DataOf bytes) = (lit≤ tt, h)
  tries_at now.WaitingForData (server.Accepted guid) = tries_either c.descriptors _ _ (lit≤ tt, h) (lit≤ tt, h)
  tries_at now.WaitingForData (server.Rejected words) = tries_next c.descriptors c.left h
  tries_at now.WaitingForData (server.Error text) = (lit≤ tt, h)
  tries_at now.WaitingForData server.Agree = (lit≤ tt, h)
  tries_at now.WaitingForData server.Other = (lit≤ tt, h)
  tries_at now.WaitingForOk (server.DataOf bytes) = (lit≤ tt, h)
  tries_at now.WaitingForOk (server.Accepted guid) = tries_either c.descriptors _ _ (lit≤ tt, h) (lit≤ tt, h)
  tries_at now.WaitingForOk (server.Rejected words) = tries_next c.descriptors c.left h
  tries_at now.WaitingForOk (server.Error text) = (lit≤ tt, h)
  tries_at now.WaitingForOk server.Agree = (lit≤ tt, h)
  tries_at now.WaitingForOk server.Other = (lit≤ tt, h)
  tries_at now.WaitingForAgree (server.DataOf bytes) = (lit≤ tt, h)
  tries_at now.WaitingForAgree (server.Accepted guid) = (lit≤ tt, h)
  tries_at now.WaitingForAgree (server.Rejected words) = (lit≤ tt, h)
  tries_at now.WaitingForAgree (server.Error text) = (lit≤ tt, h)
  tries_at now.WaitingForAgree server.Agree = (lit≤ tt, h)
  tries_at now.WaitingForAgree server.Other = (lit≤ tt, h)
  tries_at now.WaitingForReject (server.DataOf bytes) = (lit≤ tt, h)
  tries_at now.WaitingForReject (server.Accepted guid) = (lit≤ tt, h)
  tries_at now.WaitingForReject (server.Rejected words) = tries_next c.descriptors c.left h
  tries_at now.WaitingForReject (server.Error text) = (lit≤ tt, h)
  tries_at now.WaitingForReject server.Agree = (lit≤ tt, h)
  tries_at now.WaitingForReject server.Other = (lit≤ tt, h)
  tries_at now.Fresh line = (lit≤ tt, h)
  tries_at now.Begun line = (lit≤ tt, h)
  tries_at now.Closed line = (lit≤ tt, h)

-- mechanisms are left to try
abbrev pub CanTry : ClientMachine → Type 0
CanTry c = AllByRecursion IsMechanism c.left

client_short : (c : ClientMachine) (line : List ℕ) → CanTry c → (length (client_turn c line).send ≤ REPLY_ROOM) × CanTry (client_turn c line).next
unfolding client_step
client_short c line h = let tries = tries_at c h c.state (server_meaning line) in (omega (arith, tries.0), tries.1)

greets : (descriptors : Bool) (left : List ClientMechanism) → AllByRecursion IsMechanism left → length (client_greets (next_among descriptors left).action) ≤ REPLY_ROOM
greets descriptors [] h = lit≤ tt
greets descriptors (m ∷ ms) h = omega (arith, auth_short m h.0)

pub client_reply : (e : ClientEndState) → CanTry e.machine → (piece : List ℕ) (started : Bool) → Reply CanTry (client_goes_on_at e piece started)
unfolding client_starts
client_reply e h piece true = end_reply client_turn CanTry client_short e h piece
client_reply e h piece false = record { fits = greets e.machine.descriptors e.machine.left h; machine = (tries_next e.machine.descriptors e.machine.left h).1 }

greeted_as : (descriptors : Bool) (left : List ClientMechanism) → (if is_empty (client_greets (next_among descriptors left).action) then status.Closed else status.Talking) ≡ status_after (next_among descriptors left).action
greeted_as descriptors [] = refl
greeted_as descriptors (m ∷ ms) = refl

-- an end takes nothing at its start; without a mechanism it sends nothing, and is closed
pub starts_as : (e : ClientEndState) → (0 ≡ (client_starts e).taken) × ((if is_empty (client_starts e).send then status.Closed else status.Talking) ≡ (client_starts e).after.status)
unfolding client_starts
starts_as e = (refl, greeted_as e.machine.descriptors e.machine.left)

-- an end that has not started starts
pub first_call : (e e' : ClientEndState) (piece : List ℕ) → e ≡ e' → e.started ≡ false → client_starts e ≡ client_goes_on e' piece
first_call e e' piece same is = sym (ap (client_goes_on_at e piece) is) ∙ ap (λ (x : ClientEndState). client_goes_on x piece) same

-- what is left to try are mechanisms, whether a call did its step or changed nothing
pub left_after : {S : Type 0} {E : Type 0} (r : Result S E) (P : S → Type 0) (old new : ClientEndState) (outcome : EndOutcome ClientEndState) → Reply CanTry outcome → CanTry old.machine
    → ((s : S) → P s → new ≡ outcome.after) → IfOk r P → OnErr r (new ≡ old) → CanTry new.machine
left_after (Ok s) P old new outcome reply h is did same = subst (λ (e : ClientEndState). CanTry e.machine) (sym (is s did)) reply.machine
left_after (Err x) P old new outcome reply h is did same = subst (λ (e : ClientEndState). CanTry e.machine) (sym same) h

pub short_after : {S : Type 0} {E : Type 0} (r : Result S E) (P : S → Type 0) (send : S → List ℕ) (outcome : EndOutcome ClientEndState) → Reply CanTry outcome
    → ((s : S) → P s → send s ≡ outcome.send) → IfOk r P → IfOk r (λ s. length (send s) ≤ REPLY_ROOM)
short_after (Ok s) P send outcome reply is did = subst (λ (sent : List ℕ). length sent ≤ REPLY_ROOM) (sym (is s did)) reply.fits
short_after (Err x) P send outcome reply is did = tt
