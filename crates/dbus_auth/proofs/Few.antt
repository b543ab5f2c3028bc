-- An end with bounds sends few lines, whoever its peer is.
use Rattle.std.proofs.Common.{◌≡◌, ◌⊎◌, inl, inr, ℕ, suc, ◌+◌, ◌*◌, ◌-◌, ◌≤◌, ◌==◌, ◌&&◌, ◌||◌, Bool, true, false, List, [], ◌∷◌, ◌++◌, length, take, drop, Option, Some, None, if◌then◌else◌, refl, sym, ◌∙◌, ap, subst, arith, lit≤, length-append}
use Rattle.std.specs.Prelude.{option_map, codes, bytes_eq}
use Rattle.std.proofs.lemmas.Bool.{eqb-false}
use Rattle.dbus_auth_lines.specs.ClientCommands.{ClientCommand}
use Rattle.dbus_auth_lines.specs.ClientCommands as client
use Rattle.dbus_auth_lines.specs.ServerCommands.{ServerCommand}
use Rattle.dbus_auth_lines.specs.ServerCommands as server
use Rattle.dbus_auth_lines.specs.Lines.{client_meaning, server_meaning}
use Rattle.dbus_auth_lines.specs.Cut.{Cut, Ends, Bad, More, cut}
use Rattle.dbus_auth.specs.Machines.{Disconnects, Sends, ClientMachine, ClientMechanism, External, Anonymous, ClientStep, ServerMachine, ServerStep, auth_line, begins, client_accepted, client_step, client_step_at, closes as shuts, is_empty, is_user, next_among, offers_external, rejects, replies, server_step, server_step_at, unaccepted, waits_in}
use Rattle.dbus_auth.specs.Ends.{ClientEndState, EndOutcome, EndState, Turn, answers_if, client_counts, client_greets, client_sends, client_starts, client_turn, counts_as, cuts, left_after, less_by, one_less, server_counts, server_sends, server_turn, takes}
use Rattle.dbus_auth.specs.World.{EndRun, IsFinished, client_at_first, last_lines, line_sent, run_client, run_end, run_server, server_at_first}
use Rattle.dbus_auth.specs.Bounded.{IsWaiting, StaysWithin, client_most, server_most, within}
use Rattle.dbus_auth.specs.declared.bounds.Bounds.{Bounds}
use Rattle.dbus_auth.specs.declared.bounds.Counted.{Counted}
use Rattle.dbus_auth.specs.declared.bounds.Counted.TheVariants as counted
use Rattle.dbus_auth.specs.declared.end_step.Status.{Status}
use Rattle.dbus_auth.specs.declared.end_step.Status.TheVariants as status
use Rattle.dbus_auth.specs.declared.states.ServerState.{ServerState}
use Rattle.dbus_auth.specs.declared.states.ServerState.TheVariants as at
use Rattle.dbus_auth.specs.declared.states.ClientState.{ClientState}
use Rattle.dbus_auth.specs.declared.states.ClientState.TheVariants as now
use Rattle.dbus_auth.proofs.AnyCut.{takes_sound}
use Rattle.dbus_auth.proofs.Sides.{cut_nil}
use Rattle.dbus_auth.proofs.Stages.{takes_by}
use Rattle.dbus_auth.proofs.Steps.{one_line}

-- ---- what is counted

one_at_most : (bytes : List ℕ) → length (line_sent bytes) ≤ 1
one_at_most [] = lit≤ tt
one_at_most (b ∷ bs) = lit≤ tt

fewer : (n : ℕ) (b next : Bounds) (made : ℕ → Bounds) → option_map made (one_less n) ≡ Some next → (k : ℕ) × ((suc k ≡ n) × (made k ≡ next))
fewer n b next made h = by_test (n == 0) (eqb-false n 0) h
  where
    by_test : (t : Bool) → (t ≡ false → n ≡ 0 → ⊥) → option_map made (if t then None else Some (n - 1)) ≡ Some next → (k : ℕ) × ((suc k ≡ n) × (made k ≡ next))
    by_test true some g = cc g
    by_test false some g = (let more = some refl in (n - 1, (grind (arith), (let e : Some (made (n - 1)) ≡ Some next = g in cc))))

-- a line that counts as this takes what may be sent from here to there
abbrev Takes : Counted → Bounds → Bounds → Type 0
Takes counted.Rejection b next = (suc next.rejections ≡ b.rejections) × (next.errors ≡ b.errors)
Takes counted.Stay b next = (next.rejections ≡ b.rejections) × (suc next.errors ≡ b.errors)
Takes counted.Step b next = (next.rejections ≡ b.rejections) × (next.errors ≡ b.errors)

less : (c : Counted) (b next : Bounds) → less_by c b ≡ Some next → Takes c b next
less counted.Rejection b next h =
    let k = fewer b.rejections b next (λ n. record b { rejections = n }) h in
    (ap suc (ap (λ (x : Bounds). x.rejections) (sym k.1.1)) ∙ k.1.0, ap (λ (x : Bounds). x.errors) (sym k.1.1))
less counted.Stay b next h =
    let k = fewer b.errors b next (λ n. record b { errors = n }) h in
    (ap (λ (x : Bounds). x.rejections) (sym k.1.1), ap suc (ap (λ (x : Bounds). x.errors) (sym k.1.1)) ∙ k.1.0)
less counted.Step b next h =
    let e : b ≡ next = (let g : Some b ≡ Some next = h in cc) in
    (ap (λ (x : Bounds). x.rejections) (sym e), ap (λ (x : Bounds). x.errors) (sym e))

-- ---- the calls of an end

-- room: how many lines a machine sends at most that may still send so much
module _ {M : Type 0} (turn : M → List ℕ → Turn M) (room : M → Bounds → ℕ)
    (fits : (m : M) (line : List ℕ) (b next : Bounds) → Takes (turn m line).counts b next → length (line_sent (turn m line).send) + room (turn m line).next next ≤ room m b) where
  record Few (e : EndState M) (b : Bounds) (outcome : EndOutcome (EndState M)) : Type 0 where
    next : Bounds
    left : outcome.after.left ≡ Some next
    few : length (line_sent outcome.send) + room outcome.after.machine next ≤ room e.machine b

  few_answers : (e : EndState M) (b : Bounds) (taken : ℕ) (line : List ℕ) → e.left ≡ Some b → (l : Option Bounds) → less_by (turn e.machine line).counts b ≡ l
      → Few e b (answers_if turn e taken (turn e.machine line) (option_map Some l))
  few_answers e b taken line is None h = record { next = b; left = is; few = omega arith }
  few_answers e b taken line is (Some next) h = record { next = next; left = refl; few = fits e.machine line b next (less (turn e.machine line).counts b next h) }

  few_cuts : (e : EndState M) (b : Bounds) → e.left ≡ Some b → (skipped : ℕ) (bs : List ℕ) (c : Cut) → Few e b (cuts turn e skipped bs c)
  few_cuts e b is skipped bs (Ends size) =
      let line = take (size - 2) (e.kept ++ bs) in
      subst (λ (l : Option Bounds). Few e b (answers_if turn e (skipped + (size - length e.kept)) (turn e.machine line) (left_after l (turn e.machine line).counts))) (sym is)
      (few_answers e b (skipped + (size - length e.kept)) line is (less_by (turn e.machine line).counts b) refl)
  few_cuts e b is skipped bs (Bad fault) = record { next = b; left = is; few = omega arith }
  few_cuts e b is skipped bs More = record { next = b; left = is; few = omega arith }

  few_takes : (e : EndState M) (b : Bounds) → e.left ≡ Some b → (piece : List ℕ) → Few e b (takes turn e piece)
  few_takes e b is piece =
      takes_by turn (Few e b) e (record { next = b; left = is; few = omega arith }) (record { next = b; left = is; few = omega arith }) (λ skipped bs. few_cuts e b is skipped bs (cut (e.kept ++ bs))) piece

  few_said : (ns : List ℕ) (e : EndState M) (b : Bounds) (bytes : List ℕ) → e.left ≡ Some b → length (run_end turn e bytes ns).said ≤ room e.machine b
  few_said [] e b bytes is = omega arith
  few_said (n ∷ ns) e b bytes is =
      let outcome = takes turn e (take n bytes) in
      let f = few_takes e b is (take n bytes) in
      let rest = run_end turn outcome.after (drop outcome.taken bytes) ns in
      omega (arith, f.few, few_said ns outcome.after f.next (drop outcome.taken bytes) f.left, length-append (line_sent outcome.send) rest.said)

  sound_to_the_end : (ns : List ℕ) (e : EndState M) (bytes : List ℕ) → cut e.kept ≡ More → cut (run_end turn e bytes ns).after.kept ≡ More
  sound_to_the_end [] e bytes sound = sound
  sound_to_the_end (n ∷ ns) e bytes sound =
      let outcome = takes turn e (take n bytes) in
      sound_to_the_end ns outcome.after (drop outcome.taken bytes) (takes_sound turn e (take n bytes) sound)

-- an end that still talks has taken all
stands : {M : Type 0} (run : EndRun M) → cut run.after.kept ≡ More → IsFinished run → (run.after.status ≡ status.Begun) ⊎ ((run.after.status ≡ status.Closed) ⊎ IsWaiting run)
stands run sound finished = by_status run.after.status refl
  where
    by_end : run.after.status ≡ status.Talking → IsFinished run → IsWaiting run
    by_end is (inl nil) = (is, nil, sound)
    by_end is (inr shut) = absurd (shut is)

    by_status : (st : Status) → run.after.status ≡ st → (run.after.status ≡ status.Begun) ⊎ ((run.after.status ≡ status.Closed) ⊎ IsWaiting run)
    by_status status.Begun is = inl is
    by_status status.Closed is = inr (inl is)
    by_status status.Talking is = inr (inr (by_end is finished))

-- ---- a server's

abbrev tries : ServerState → ℕ
tries at.WaitingForAuth = 2
tries at.WaitingForData = 1
tries at.WaitingForBegin = 0
tries at.Begun = 0
tries at.Closed = 0

abbrev server_room : ServerState → Bounds → ℕ
server_room state b = tries state + 3 * b.rejections + b.errors

abbrev Fits : ServerState → ServerStep → Type 0
Fits state step = (b next : Bounds) → Takes (counts_as server_counts step.action) b next → length (line_sent (server_sends step.action)) + server_room step.next.state next ≤ server_room state b

fits_reject : (s : ServerMachine) (state : ServerState) → Fits state (rejects s)
fits_reject s state b next h = omega (arith, one_at_most (server_sends (rejects s).action), h.0, h.1)

fits_stay : (line : ServerCommand) (next : ServerMachine) (state : ServerState) → server_counts line ≡ counted.Stay → next.state ≡ state → Fits state (record { action = Sends line; next = next })
fits_stay line next state stay same b less h =
    let g : Takes counted.Stay b less = subst (λ (c : Counted). Takes c b less) stay h in
    omega (arith, one_at_most (server_sends (Sends line)), g.0, g.1, ap tries same)

fits_step : (s : ServerMachine) (line : ServerCommand) (next state : ServerState) → server_counts line ≡ counted.Step → 1 + tries next ≤ tries state → Fits state (replies s line next)
fits_step s line next state step more b less h =
    let g : Takes counted.Step b less = subst (λ (c : Counted). Takes c b less) step h in
    omega (arith, one_at_most (server_sends (Sends line)), g.0, g.1, more)

fits_if : (t : Bool) (x y : ServerStep) (state : ServerState) → Fits state x → Fits state y → Fits state (if t then x else y)
fits_if true x y state p q = p
fits_if false x y state p q = q

-- nothing is sent, and no more will be
fits_end : (next : ServerMachine) (state : ServerState) → tries next.state ≤ tries state → Fits state (record { action = Disconnects; next = next })
fits_end next state less b left h = omega (arith, h.0, h.1, less)

fits_at : (s : ServerMachine) (state : ServerState) → s.state ≡ state → (line : ClientCommand) → Fits state (server_step_at s state line)
fits_at s at.WaitingForAuth is (client.AuthBy mech response) =
    fits_if (bytes_eq mech (codes "EXTERNAL") && offers_external s.user && is_empty response) _ _ at.WaitingForAuth
    (fits_step s (server.DataOf []) at.WaitingForData at.WaitingForAuth refl (lit≤ tt))
    (fits_if (bytes_eq mech (codes "EXTERNAL") && is_user s.user response) _ _ at.WaitingForAuth (fits_step s (server.Accepted s.guid) at.WaitingForBegin at.WaitingForAuth refl (lit≤ tt))
    (fits_if (bytes_eq mech (codes "ANONYMOUS") && s.anonymous) _ _ at.WaitingForAuth (fits_step s (server.Accepted s.guid) at.WaitingForBegin at.WaitingForAuth refl (lit≤ tt))
    (fits_reject s at.WaitingForAuth)))
fits_at s at.WaitingForAuth is client.Auth = fits_reject s at.WaitingForAuth
fits_at s at.WaitingForAuth is (client.Error text) = fits_reject s at.WaitingForAuth
fits_at s at.WaitingForAuth is client.Begin = fits_end (record s { state = at.Closed; agreed = false }) at.WaitingForAuth (lit≤ tt)
fits_at s at.WaitingForAuth is _ = fits_stay (server.Error []) s at.WaitingForAuth refl is
fits_at s at.WaitingForData is (client.DataOf bytes) =
    fits_if (is_empty bytes || is_user s.user bytes) _ _ at.WaitingForData (fits_step s (server.Accepted s.guid) at.WaitingForBegin at.WaitingForData refl (lit≤ tt)) (fits_reject s at.WaitingForData)
fits_at s at.WaitingForData is client.Cancel = fits_reject s at.WaitingForData
fits_at s at.WaitingForData is (client.Error text) = fits_reject s at.WaitingForData
fits_at s at.WaitingForData is client.Begin = fits_end (record s { state = at.Closed; agreed = false }) at.WaitingForData (lit≤ tt)
fits_at s at.WaitingForData is _ = fits_stay (server.Error []) s at.WaitingForData refl is
fits_at s at.WaitingForBegin is client.Begin = λ b next h. omega (arith, h.0, h.1)
fits_at s at.WaitingForBegin is client.Cancel = fits_reject s at.WaitingForBegin
fits_at s at.WaitingForBegin is (client.Error text) = fits_reject s at.WaitingForBegin
fits_at s at.WaitingForBegin is client.Negotiate =
    fits_if s.descriptors _ _ at.WaitingForBegin (fits_stay server.Agree (record s { state = at.WaitingForBegin; agreed = true }) at.WaitingForBegin refl refl)
    (fits_stay (server.Error []) s at.WaitingForBegin refl is)
fits_at s at.WaitingForBegin is _ = fits_stay (server.Error []) s at.WaitingForBegin refl is
fits_at s at.Begun is line = fits_end s at.Begun (omega (arith, ap tries is))
fits_at s at.Closed is line = fits_end s at.Closed (omega (arith, ap tries is))

server_fits : (s : ServerMachine) (line : List ℕ) (b next : Bounds) → Takes (server_turn s line).counts b next → length (line_sent (server_turn s line).send) + server_room (server_turn s line).next.state next ≤ server_room s.state b
unfolding server_step
server_fits s line = fits_at s s.state refl (client_meaning line)

pub server_stays_within : (s : ServerMachine) (b : Bounds) (bytes ns : List ℕ) → StaysWithin (server_most b) (run_server (within b (server_at_first s)) bytes ns)
server_stays_within s b bytes ns =
    let e = within b (server_at_first s) in
    record {
      lines = omega (arith, few_said server_turn (λ m. server_room m.state) server_fits ns e b bytes refl);
      stands = stands (run_server e bytes ns) (sound_to_the_end server_turn (λ m. server_room m.state) server_fits ns e bytes cut_nil);
    }

-- ---- a client's

-- last: the lines that end its part
abbrev extra : ClientState → ℕ → ℕ
extra now.Fresh last = last
extra now.WaitingForData last = 2 + last
extra now.WaitingForOk last = 1 + last
extra now.WaitingForAgree last = 1
extra now.WaitingForReject last = last
extra now.Begun last = 0
extra now.Closed last = 0

abbrev client_room : ClientMachine → Bounds → ℕ
client_room c b = 3 * length c.left + extra c.state (last_lines c) + b.errors

-- most: the lines that a client sends at most, but for ERROR
abbrev FitsIn : (most : ℕ) → ClientStep → Type 0
FitsIn most step = (b next : Bounds) → Takes (counts_as client_counts step.action) b next → length (line_sent (client_sends step.action)) + client_room step.next next ≤ most + b.errors

waits_some : (m : ClientMechanism) (last : ℕ) → extra (waits_in m) last ≤ 2 + last
waits_some (External None) last = omega arith
waits_some (External (Some n)) last = omega arith
waits_some (Anonymous trace) last = omega arith

auth_goes_on : (m : ClientMechanism) → client_counts (auth_line m) ≡ counted.Step
auth_goes_on (External None) = refl
auth_goes_on (External (Some n)) = refl
auth_goes_on (Anonymous trace) = refl

in_next : (descriptors : Bool) (left : List ClientMechanism) (most : ℕ) → 3 * length left + (if descriptors then 2 else 1) ≤ most → FitsIn most (next_among descriptors left)
in_next descriptors [] most room b next h = omega (arith, h.0, h.1)
in_next descriptors (m ∷ ms) most room b next h =
    let g : Takes counted.Step b next = subst (λ (c : Counted). Takes c b next) (auth_goes_on m) h in
    omega (arith, one_at_most (client_sends (next_among descriptors (m ∷ ms)).action), room, g.0, g.1, waits_some m (if descriptors then 2 else 1))

in_line : (line : ClientCommand) (next : ClientMachine) (most : ℕ) → client_counts line ≡ counted.Step → 1 + 3 * length next.left + extra next.state (last_lines next) ≤ most → FitsIn most (record { action = Sends line; next = next })
in_line line next most step room b less h =
    let g : Takes counted.Step b less = subst (λ (c : Counted). Takes c b less) step h in
    omega (arith, one_at_most (client_sends (Sends line)), g.0, g.1, room)

in_stay : (c : ClientMachine) (state : ClientState) → c.state ≡ state → FitsIn (3 * length c.left + extra state (last_lines c)) (record { action = Sends (client.Error []); next = c })
in_stay c state is b next h = omega (arith, one_at_most (client_sends (Sends (client.Error []))), h.0, h.1, ap (λ (x : ClientState). extra x (last_lines c)) is)

in_begin : (c : ClientMachine) (guid : Option (List ℕ)) (agreed : Bool) (most : ℕ) → 3 * length c.left + 1 ≤ most → FitsIn most (begins c guid agreed)
in_begin c guid agreed most room b next h = omega (arith, one_at_most (client_sends (begins c guid agreed).action), room, h.0, h.1)

in_close : (c : ClientMachine) (most : ℕ) → 3 * length c.left ≤ most → FitsIn most (shuts c)
in_close c most room b next h = omega (arith, room, h.0, h.1)

in_accepted : (c : ClientMachine) (guid : List ℕ) (most : ℕ) → 3 * length c.left + 2 ≤ most → FitsIn most (client_accepted c guid)
in_accepted c guid most room = by_setting c.descriptors
  where
    asking : ClientMachine
    asking = record c { state = now.WaitingForAgree; guid = Some guid; agreed = false }

    by_setting : (d : Bool) → FitsIn most (if d then record { action = Sends client.Negotiate; next = asking } else begins c (Some guid) false)
    by_setting true = in_line client.Negotiate asking most refl (omega (arith, room))
    by_setting false = in_begin c (Some guid) false most (omega (arith, room))

in_same : (c : ClientMachine) (state : ClientState) → c.state ≡ state → FitsIn (3 * length c.left + extra state (last_lines c)) (record { action = Disconnects; next = c })
in_same c state is b next h = omega (arith, h.0, h.1, ap (λ (x : ClientState). extra x (last_lines c)) is)

module _ (c : ClientMachine) where
  abbrev most : ClientState → ℕ
  most state = 3 * length c.left + extra state (last_lines c)

  abbrev asking : ClientState → ClientMachine
  asking state = unaccepted c.descriptors state c.left

  in_at : (state : ClientState) → c.state ≡ state → (line : ServerCommand) → FitsIn (most state) (client_step_at c state line)
  in_at now.WaitingForData is (server.DataOf bytes) = in_line (client.DataOf []) (asking now.WaitingForOk) (most now.WaitingForData) refl (omega arith)
  in_at now.WaitingForData is (server.Accepted guid) = in_accepted c guid (most now.WaitingForData) (omega arith)
  in_at now.WaitingForData is (server.Rejected words) = in_next c.descriptors c.left (most now.WaitingForData) (omega arith)
  in_at now.WaitingForData is (server.Error text) = in_line client.Cancel (asking now.WaitingForReject) (most now.WaitingForData) refl (omega arith)
  in_at now.WaitingForData is _ = in_stay c now.WaitingForData is
  in_at now.WaitingForOk is (server.Accepted guid) = in_accepted c guid (most now.WaitingForOk) (omega (arith, one_line c))
  in_at now.WaitingForOk is (server.Rejected words) = in_next c.descriptors c.left (most now.WaitingForOk) (omega arith)
  in_at now.WaitingForOk is (server.DataOf bytes) = in_line client.Cancel (asking now.WaitingForReject) (most now.WaitingForOk) refl (omega arith)
  in_at now.WaitingForOk is (server.Error text) = in_line client.Cancel (asking now.WaitingForReject) (most now.WaitingForOk) refl (omega arith)
  in_at now.WaitingForOk is _ = in_stay c now.WaitingForOk is
  in_at now.WaitingForAgree is server.Agree = in_begin c c.guid true (most now.WaitingForAgree) (omega arith)
  in_at now.WaitingForAgree is (server.Error text) = in_begin c c.guid false (most now.WaitingForAgree) (omega arith)
  in_at now.WaitingForAgree is _ = in_close c (most now.WaitingForAgree) (omega arith)
  in_at now.WaitingForReject is (server.Rejected words) = in_next c.descriptors c.left (most now.WaitingForReject) (omega arith)
  in_at now.WaitingForReject is _ = in_close c (most now.WaitingForReject) (omega arith)
  in_at now.Fresh is line = in_same c now.Fresh is
  in_at now.Begun is line = in_same c now.Begun is
  in_at now.Closed is line = in_same c now.Closed is

client_fits : (c : ClientMachine) (line : List ℕ) (b next : Bounds) → Takes (client_turn c line).counts b next → length (line_sent (client_turn c line).send) + client_room (client_turn c line).next next ≤ client_room c b
unfolding client_step
client_fits c line = in_at c c.state refl (server_meaning line)

-- the first line, with the byte 0
in_greeting : (descriptors : Bool) (left : List ClientMechanism) (b : Bounds)
    → length (line_sent (client_greets (next_among descriptors left).action)) + client_room (next_among descriptors left).next b ≤ 3 * length left + (if descriptors then 2 else 1) + b.errors
in_greeting descriptors [] b = omega arith
in_greeting descriptors (m ∷ ms) b = omega (arith, one_at_most (client_greets (next_among descriptors (m ∷ ms)).action), waits_some m (if descriptors then 2 else 1))

module _ (c : ClientMachine) (b : Bounds) where
  abbrev first : ClientEndState
  first = within b (client_at_first c)

  started_few : length (line_sent (client_starts first).send) + client_room (client_starts first).after.machine b ≤ client_most c b
  unfolding client_starts
  started_few = in_greeting c.descriptors c.left b

  started_left : (client_starts first).after.left ≡ Some b
  unfolding client_starts
  started_left = refl

  started_sound : cut (client_starts first).after.kept ≡ More
  unfolding client_starts
  started_sound = cut_nil

  pub client_stays_within : (bytes ns : List ℕ) → StaysWithin (client_most c b) (run_client (within b (client_at_first c)) bytes ns)
  client_stays_within bytes ns =
      let start = client_starts first in
      let rest = run_end client_turn start.after bytes ns in
      record {
        lines = omega (arith, started_few, few_said client_turn client_room client_fits ns start.after b bytes started_left, length-append (line_sent start.send) rest.said);
        stands = stands (run_client first bytes ns) (sound_to_the_end client_turn client_room client_fits ns start.after bytes started_sound);
      }
