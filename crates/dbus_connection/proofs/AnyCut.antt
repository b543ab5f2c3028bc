-- What comes of bytes, whoever cuts them: lines of a handshake, and then messages.
use Rattle.std.proofs.Common.{◌≡◌, ◌∙◌, ◌⊎◌, ℕ, Bool, true, false, List, [], ◌∷◌, length, take, drop, Option, None, if◌then◌else◌, refl, sym, ap, subst, inl, inr, arith, take-append-drop}
use Rattle.std.proofs.lemmas.List.{drop-drop}
use Rattle.dbus_auth_lines.specs.ClientCommands as client
use Rattle.dbus_auth_lines.specs.Lines.{client_line, client_meaning, ended, server_line, server_meaning}
use Rattle.dbus_auth_lines.proofs.Cuts.{length-ended}
use Rattle.dbus_auth.specs.Ends.{ClientEndState, EndOutcome, EndState, ServerEndState, Turn, client_starts, client_takes, client_turn, sends, server_takes, server_turn, status_after, takes}
use Rattle.dbus_auth.specs.Machines as machine
use Rattle.dbus_auth.specs.Machines.{Action, ClientMachine, ServerMachine, client_step, next_of, server_step}
use Rattle.dbus_auth.specs.declared.end_step.Status.{Status}
use Rattle.dbus_auth.specs.declared.end_step.Status.TheVariants as status
use Rattle.dbus_connection.specs.Answers.{client_answer, client_goes_on, server_answer}
use Rattle.dbus_connection.specs.Runs.{AnyCut, AreCalls, BeginsAs, Call, came, coming}
use Rattle.dbus_connection.specs.Standing.{Answer, Client, Closed, Fails, Messages, Server, Stand, Told, Wants, stands_by, told_by}
use Rattle.dbus_connection.specs.declared.settings.Settings.{Settings}
use Rattle.dbus_connection.proofs.Courses.{Course, course, longer, one_course, rests}
use Rattle.dbus_connection.proofs.Handed.{IsLike, IsShut, IsTold, Settles, settled, settles, waits}

-- ---- an end that goes on says something

spoken : {L : Type 0} (spelled : L → List ℕ) (begin : List ℕ) (a : Action L)
    → status_after a ≡ status.Talking → sends spelled begin a ≡ [] → ⊥
spoken spelled begin (machine.Sends line) t nil =
    let n : length (ended (spelled line)) ≡ 0 = ap length nil in omega (arith, n, length-ended (spelled line))
spoken spelled begin machine.Begins t nil = absurd (let x : status.Begun ≡ status.Talking = t in cc)
spoken spelled begin machine.Disconnects t nil = absurd (let x : status.Closed ≡ status.Talking = t in cc)

client_says : (m : ClientMachine) (line : List ℕ) → (client_turn m line).status ≡ status.Talking
    → (client_turn m line).send ≡ [] → ⊥
client_says m line =
    spoken client_line (ended (client_line client.Begin)) (client_step m (server_meaning line)).action

server_says : (m : ServerMachine) (line : List ℕ) → (server_turn m line).status ≡ status.Talking
    → (server_turn m line).send ≡ [] → ⊥
server_says m line = spoken server_line [] (server_step m (client_meaning line)).action

starts_told : (e : ClientEndState) → IsTold (client_starts e)
unfolding client_starts
starts_told e = spoken (λ line. 0 ∷ client_line line) [] (next_of e.machine).action

comes : (st : Status) (send : List ℕ) (guid : Option (List ℕ)) (agreed : Bool) (later : List Told)
    → (st ≡ status.Talking → send ≡ [] → ⊥)
    → coming (told_by st send guid agreed) later ≡ told_by st send guid agreed ∷ later
comes status.Talking [] guid agreed later told = absurd (told refl refl)
comes status.Talking (b ∷ bs) guid agreed later told = refl
comes status.Begun send guid agreed later told = refl
comes status.Closed send guid agreed later told = refl

quiet : (st : Status) (send : List ℕ) (guid : Option (List ℕ)) (agreed : Bool) → st ≡ status.Talking
    → send ≡ [] → told_by st send guid agreed ≡ Wants 1
quiet st send guid agreed t nil =
    ap (λ (s : Status). told_by s send guid agreed) t
    ∙ ap (λ (b : List ℕ). told_by status.Talking b guid agreed) nil

module _ (settings : Settings) where
  abbrev Goes : Stand → List ℕ → List Told → Type 0
  Goes s bytes [] = Unit {0}
  Goes (Client e) bytes (x ∷ told) =
      (x ≡ (client_answer (client_goes_on e bytes)).told) × Goes (stands_by (Client (client_goes_on e bytes).after) x) (drop (client_goes_on e bytes).taken bytes) told
  Goes (Server e) bytes (x ∷ told) =
      (x ≡ (server_answer (server_takes e bytes)).told) × Goes (stands_by (Server (server_takes e bytes).after) x) (drop (server_takes e bytes).taken bytes) told
  Goes (Messages skip) bytes (x ∷ told) = Course settings (drop skip bytes) (x ∷ told)
  Goes Closed bytes (x ∷ told) = ⊥

  closed_any : (told : List Told) (b c : List ℕ) → Goes Closed b told → Goes Closed c told
  closed_any [] b c h = tt
  closed_any (x ∷ told) b c h = absurd h

  among : (told : List Told) (skip : ℕ) (bytes : List ℕ) → Course settings (drop skip bytes) told → Goes (Messages skip) bytes told
  among [] skip bytes h = tt
  among (x ∷ told) skip bytes h = h

  -- ---- what an end tells, and what comes then

  module _ {M : Type 0} (guid : M → Option (List ℕ)) (agreed : M → Bool) (side : EndState M → Stand) where
    abbrev tells : EndOutcome (EndState M) → Told
    tells o = told_by o.after.status o.send (guid o.after.machine) (agreed o.after.machine)

    abbrev Then : EndOutcome (EndState M) → List ℕ → List Told → Type 0
    Then o bytes [] = Unit {0}
    Then o bytes (x ∷ told) =
        (x ≡ tells o) × Goes (stands_by (side o.after) x) (drop o.taken bytes) told

    fails : (o : EndOutcome (EndState M)) → IsShut o → tells o ≡ Fails
    fails o shut =
        ap (λ (s : Status). told_by s o.send (guid o.after.machine) (agreed o.after.machine)) shut

    once : (o : EndOutcome (EndState M)) (bytes : List ℕ) (later : List Told) → IsTold o
        → Goes (stands_by (side o.after) (tells o)) (drop o.taken bytes) later
        → Then o bytes (coming (tells o) later)
    once o bytes later told h =
        subst (Then o bytes) (sym (comes o.after.status o.send (guid o.after.machine) (agreed o.after.machine) later told)) (refl, h)

    alike : (whole o : EndOutcome (EndState M)) (taken : ℕ) (bytes : List ℕ) (told : List Told)
        → IsLike taken whole o → Then o (drop taken bytes) told → Then whole bytes told
    alike whole o taken bytes [] like h = tt
    alike whole o taken bytes (x ∷ told) (inl same) h =
        subst (λ (w : EndOutcome (EndState M)). Then w bytes (x ∷ told)) (sym same)
        (h.0, subst (λ (b : List ℕ). Goes (stands_by (side o.after) x) b told) (drop-drop o.taken taken bytes) h.1)
    alike whole o taken bytes (x ∷ told) (inr shut) h =
        let f : x ≡ Fails = h.0 ∙ fails o shut.1 in
        let left = drop o.taken (drop taken bytes) in (
          f ∙ sym (fails whole shut.0),
          subst (λ (y : Told). Goes (stands_by (side whole.after) y) (drop whole.taken bytes) told) (sym f)
              (closed_any told left (drop whole.taken bytes) (subst (λ (y : Told). Goes (stands_by (side o.after) y) left told) f h.1)),
        )

    -- a call that is handed the first of these bytes
    follow : (turn : M → List ℕ → Turn M) (e : EndState M) (bytes : List ℕ) (whole o : EndOutcome (EndState M)) (later : List Told) → Settles turn e bytes whole o
        → ((e.started ≡ true → o.after.started ≡ true) → Goes (side o.after) (drop o.taken bytes) later → Then (takes turn o.after (drop o.taken bytes)) (drop o.taken bytes) later)
        → Goes (stands_by (side o.after) (tells o)) (drop o.taken bytes) later
        → Then whole bytes (coming (tells o) later)
    follow turn e bytes whole o later (settled told same) goes h =
        subst (λ (w : EndOutcome (EndState M)). Then w bytes (coming (tells o) later)) (sym same) (once o bytes later told h)
    follow turn e bytes whole o later (waits nil talking started like) goes h =
        let w : tells o ≡ Wants 1 = quiet o.after.status o.send (guid o.after.machine) (agreed o.after.machine) talking nil in
        subst (λ (y : Told). Then whole bytes (coming y later)) (sym w)
        (alike whole (takes turn o.after (drop o.taken bytes)) o.taken bytes later like (goes started (subst (λ (y : Told). Goes (stands_by (side o.after) y) (drop o.taken bytes) later) w h)))

  -- ---- a client

  abbrev ClientThen : EndOutcome ClientEndState → List ℕ → List Told → Type 0
  ClientThen = Then (λ (m : ClientMachine). m.guid) (λ (m : ClientMachine). m.agreed) Client

  client_to : (e : ClientEndState) (bytes : List ℕ) (o : EndOutcome ClientEndState) (told : List Told) → client_goes_on e bytes ≡ o → Goes (Client e) bytes told → ClientThen o bytes told
  client_to e bytes o [] is h = tt
  client_to e bytes o (x ∷ told) is h =
      subst (λ (o : EndOutcome ClientEndState). ClientThen o bytes (x ∷ told)) is h

  client_from : (e : ClientEndState) (bytes : List ℕ) (o : EndOutcome ClientEndState) (told : List Told) → client_goes_on e bytes ≡ o → ClientThen o bytes told → Goes (Client e) bytes told
  client_from e bytes o [] is h = tt
  client_from e bytes o (x ∷ told) is h =
      subst (λ (o : EndOutcome ClientEndState). ClientThen o bytes (x ∷ told)) (sym is) h

  does_take : (e : ClientEndState) (bytes : List ℕ) (z : Bool) → e.started ≡ z
      → client_goes_on e bytes ≡ (if z then client_takes e bytes else client_starts e)
  does_take e bytes z is = ap (λ (b : Bool). if b then client_takes e bytes else client_starts e) is

  client_settles : (e : ClientEndState) (handed : ℕ) (bytes : List ℕ)
      → Settles client_turn e bytes (client_takes e bytes) (client_takes e (take handed bytes))
  client_settles e handed bytes =
      subst (λ (b : List ℕ). Settles client_turn e b (client_takes e b) (client_takes e (take handed bytes))) (take-append-drop handed bytes) (settles client_turn client_says e (take handed bytes) (drop handed bytes))

  abbrev ClientFollows : ClientEndState → List ℕ → List Told → EndOutcome ClientEndState → Type 0
  ClientFollows e bytes later o =
      Goes (stands_by (Client o.after) (client_answer o).told) (drop o.taken bytes) later → Goes (Client e) bytes (coming (client_answer o).told later)

  client_follows : (e : ClientEndState) (handed : ℕ) (bytes : List ℕ) (later : List Told)
      → ClientFollows e bytes later (client_goes_on e (take handed bytes))
  client_follows e handed bytes later = by_start e.started refl
    where
      by_start : (z : Bool) → e.started ≡ z
          → ClientFollows e bytes later (client_goes_on e (take handed bytes))
      by_start true is =
          let o = client_takes e (take handed bytes) in
          subst (ClientFollows e bytes later) (sym (does_take e (take handed bytes) true is)) (λ h.
          client_from e bytes (client_takes e bytes) (coming (client_answer o).told later) (does_take e bytes true is)
          (follow (λ (m : ClientMachine). m.guid) (λ (m : ClientMachine). m.agreed) Client client_turn e bytes (client_takes e bytes) o later (client_settles e handed bytes)
          (λ started. client_to o.after (drop o.taken bytes) (client_takes o.after (drop o.taken bytes)) later (does_take o.after (drop o.taken bytes) true (started is))) h))
      by_start false is =
          subst (ClientFollows e bytes later) (sym (does_take e (take handed bytes) false is)) (λ h.
          client_from e bytes (client_starts e) (coming (client_answer (client_starts e)).told later) (does_take e bytes false is)
          (once (λ (m : ClientMachine). m.guid) (λ (m : ClientMachine). m.agreed) Client (client_starts e) bytes later (starts_told e) h))

  -- ---- a server

  abbrev ServerThen : EndOutcome ServerEndState → List ℕ → List Told → Type 0
  ServerThen = Then (λ (m : ServerMachine). None) (λ (m : ServerMachine). m.agreed) Server

  server_to : (e : ServerEndState) (bytes : List ℕ) (told : List Told) → Goes (Server e) bytes told
      → ServerThen (server_takes e bytes) bytes told
  server_to e bytes [] h = tt
  server_to e bytes (x ∷ told) h = h

  server_from : (e : ServerEndState) (bytes : List ℕ) (told : List Told)
      → ServerThen (server_takes e bytes) bytes told → Goes (Server e) bytes told
  server_from e bytes [] h = tt
  server_from e bytes (x ∷ told) h = h

  server_follows : (e : ServerEndState) (handed : ℕ) (bytes : List ℕ) (later : List Told)
      → let o = server_takes e (take handed bytes) in
      Goes (stands_by (Server o.after) (server_answer o).told) (drop o.taken bytes) later → Goes (Server e) bytes (coming (server_answer o).told later)
  server_follows e handed bytes later h =
      let o = server_takes e (take handed bytes) in
      let s = subst (λ (b : List ℕ). Settles server_turn e b (server_takes e b) o) (take-append-drop handed bytes) (settles server_turn server_says e (take handed bytes) (drop handed bytes)) in
      server_from e bytes (coming (server_answer o).told later)
      (follow (λ (m : ServerMachine). None) (λ (m : ServerMachine). m.agreed) Server server_turn e bytes (server_takes e bytes) o later s (λ started. server_to o.after (drop o.taken bytes) later) h)

  -- ---- all calls

  goes : (calls : List Call) (s : Stand) (bytes : List ℕ) → AreCalls settings s bytes calls
      → Goes s bytes (came calls)
  goes [] s bytes are = tt
  goes (c ∷ cs) (Client e) bytes are =
      let o = client_goes_on e (take c.handed bytes) in
      let after = subst (λ (a : Answer). AreCalls settings (stands_by (Client o.after) a.told) (drop a.taken bytes) cs) are.0 are.1 in
      subst (λ (a : Answer). Goes (Client e) bytes (coming a.told (came cs))) (sym are.0)
      (client_follows e c.handed bytes (came cs) (goes cs (stands_by (Client o.after) (client_answer o).told) (drop o.taken bytes) after))
  goes (c ∷ cs) (Server e) bytes are =
      let o = server_takes e (take c.handed bytes) in
      let after = subst (λ (a : Answer). AreCalls settings (stands_by (Server o.after) a.told) (drop a.taken bytes) cs) are.0 are.1 in
      subst (λ (a : Answer). Goes (Server e) bytes (coming a.told (came cs))) (sym are.0)
      (server_follows e c.handed bytes (came cs) (goes cs (stands_by (Server o.after) (server_answer o).told) (drop o.taken bytes) after))
  goes (c ∷ cs) (Messages skip) bytes are =
      among (came (c ∷ cs)) skip bytes (course settings (c ∷ cs) skip bytes are)
  goes (c ∷ cs) Closed bytes are =
      subst (Goes Closed bytes) (sym (rests settings (c ∷ cs) bytes are).came) tt

  both : (x y : Told) (xs ys : List Told) → x ≡ y → BeginsAs xs ys ⊎ BeginsAs ys xs
      → BeginsAs (x ∷ xs) (y ∷ ys) ⊎ BeginsAs (y ∷ ys) (x ∷ xs)
  both x y xs ys same h =
      subst (λ (z : Told). BeginsAs (x ∷ xs) (z ∷ ys) ⊎ BeginsAs (z ∷ ys) (x ∷ xs)) same (longer settings x xs ys h)

  one_way : (xs ys : List Told) (s : Stand) (bytes : List ℕ) → Goes s bytes xs → Goes s bytes ys
      → BeginsAs xs ys ⊎ BeginsAs ys xs
  one_way [] ys s bytes c d = inr (ys, refl)
  one_way (x ∷ xs) [] s bytes c d = inl (x ∷ xs, refl)
  one_way (x ∷ xs) (y ∷ ys) (Client e) bytes c d =
      let o = client_goes_on e bytes in
      both x y xs ys (c.0 ∙ sym d.0) (one_way xs ys (stands_by (Client o.after) x) (drop o.taken bytes) c.1 (subst (λ (z : Told). Goes (stands_by (Client o.after) z) (drop o.taken bytes) ys) (d.0 ∙ sym c.0) d.1))
  one_way (x ∷ xs) (y ∷ ys) (Server e) bytes c d =
      let o = server_takes e bytes in
      both x y xs ys (c.0 ∙ sym d.0) (one_way xs ys (stands_by (Server o.after) x) (drop o.taken bytes) c.1 (subst (λ (z : Told). Goes (stands_by (Server o.after) z) (drop o.taken bytes) ys) (d.0 ∙ sym c.0) d.1))
  one_way (x ∷ xs) (y ∷ ys) (Messages skip) bytes c d =
      one_course settings (x ∷ xs) (y ∷ ys) (drop skip bytes) c d
  one_way (x ∷ xs) (y ∷ ys) Closed bytes c d = absurd c

pub any_cut : AnyCut
any_cut settings s bytes xs ys are others =
    one_way settings (came xs) (came ys) s bytes (goes settings xs s bytes are) (goes settings ys s bytes others)
