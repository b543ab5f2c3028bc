-- Each event takes a handshake from one of its stages to another.
use Rattle.std.proofs.Common.{◌≡◌, ◌⊎◌, inl, inr, ℕ, suc, ◌+◌, ◌*◌, ◌≤◌, ◌||◌, ◌&&◌, Bool, true, false, List, [], ◌∷◌, ◌++◌, length, take, Some, None, refl, sym, ◌∙◌, ap, subst, arith, append_assoc, lit≤, if◌then◌else◌}
use Rattle.std.specs.Prelude.{codes}
use Rattle.std.specs.List.{AllByRecursion}
use Rattle.std.proofs.lemmas.List.{append-nil}
use Rattle.std.proofs.lemmas.Grind.{common_steps}
use Rattle.std.specs.Bool.{Decides}
use Rattle.std.specs.declared.alloc.Allocator as allocator
use Rattle.dbus_auth_lines.specs.ClientCommands as client
use Rattle.dbus_auth_lines.specs.ServerCommands as server
use Rattle.dbus_auth_lines.specs.Lines.{ended, client_line, server_line}
use Rattle.dbus_auth_lines.specs.ServerCommands.{ServerCommand}
use Rattle.dbus_auth_lines.proofs.SameLines.{server_lines_equal}
use denote.RattleType.{RattleType}
use mir.Syntax.{Dict}
use Rattle.dbus_auth.specs.Machines.{Begins, ServerMachine, ClientMachine, ClientMechanism, External, Anonymous, ClientStep, server_step, client_step, IsServer, auth_line, waits_in, mechanisms, asks, client_accepted, complains, next_among, IsMechanism, ServerAction, Sends}
use Rattle.dbus_auth.specs.Ends.{ServerEndState, ClientEndState, EndOutcome, Turn, nothing, not_started, after_turn, does, server_turn, client_turn, client_sends, client_counts, client_starts}
use Rattle.dbus_auth.specs.World.{untaken, sending, taking, World, Start, To_server, To_client, Server_writes, Client_writes, server_did, client_did, server_writes, client_writes, start_once, hand_client, happens, line_ends, last_lines}
use Rattle.dbus_auth.specs.declared.end_step.Status.TheVariants as status
use Rattle.dbus_auth.specs.declared.states.ServerState.TheVariants as at
use Rattle.dbus_auth.specs.declared.states.ClientState.{ClientState}
use Rattle.dbus_auth.specs.declared.states.ClientState.TheVariants as now
use Rattle.dbus_auth.proofs.Sides.{Carries, Carries-sending, Carries-nil, Carries-taking, Side, Quiet, Took, Quiet-sending, Quiet-nil, Side-more, Side-nil, waits_on, took, moves, stays, is_done}
use Rattle.dbus_auth.proofs.Stages.{server_answers, served, heard, line_ends-append, line_ends-ended, line_ends-more, line_ends-same, still, waits_still, answers_by, at_state, let_in, talks_as, wants_agree, has_begun, answer_to_ask, agree, Unsaid, IsAwaiting, Exchange, asked, gave_data, rejected, accepted, wants_data, asks_descriptors, answers_ask, ClientBegan, ServerBegan, Follows, confirming, both, ClientClosed, Fresh, Stage, fresh, speaks, began, over, to_client_of}
use Rattle.dbus_auth.proofs.Readable.{auth_is_line, auth_is_read, data_is_line, data_is_read, begin_is_line, begin_is_read, negotiate_is_line, negotiate_is_read, answer_is_line, answer_is_read, server_data_is_read, rejected_is_line, rejected_is_read, accepted_is_line, accepted_is_read, auth_step, data_step}
use Rattle.dbus_auth.specs.ServerViews.{server_action}
use Rattle.dbus_auth.specs.declared.server.ServerAct.{ServerAct}
use Rattle.dbus_auth.specs.declared.server.ServerAct.TheVariants as act
use Rattle.dbus_auth.specs.contracts.server.ServerActPartialEq.TheImpl as act_eq

-- ---- the machines' steps

abbrev client_answers : ClientStep → Turn ClientMachine
client_answers = does client_sends client_counts

awaits : (m : ClientMechanism) → IsAwaiting (waits_in m)
awaits (External None) = inr refl
awaits (External (Some n)) = inl refl
awaits (Anonymous trace) = inl refl

rejected_step : (made : ClientMachine) (state : ClientState) (left : List ClientMechanism) (ws : List (List ℕ)) → IsAwaiting state → client_step (talks_as made state left) (server.Rejected ws) ≡ next_among made.descriptors left
unfolding client_step
rejected_step made state left ws (inl e) = ap (λ (x : ClientState). client_step (talks_as made x left) (server.Rejected ws)) e
rejected_step made state left ws (inr e) = ap (λ (x : ClientState). client_step (talks_as made x left) (server.Rejected ws)) e

accepted_step : (made : ClientMachine) (state : ClientState) (left : List ClientMechanism) (guid : List ℕ) → IsAwaiting state → client_step (talks_as made state left) (server.Accepted guid) ≡ client_accepted (talks_as made now.WaitingForOk left) guid
unfolding client_step
accepted_step made state left guid (inl e) = ap (λ (x : ClientState). client_step (talks_as made x left) (server.Accepted guid)) e
accepted_step made state left guid (inr e) = ap (λ (x : ClientState). client_step (talks_as made x left) (server.Accepted guid)) e

-- what a client does once it is accepted
abbrev accepted_as : ClientMachine → List ClientMechanism → List ℕ → Bool → ClientStep
accepted_as made left guid true = record { action = Sends client.Negotiate; next = wants_agree made left guid }
accepted_as made left guid false = record { action = Begins; next = has_begun made left guid false }

accepted_by : (made : ClientMachine) (left : List ClientMechanism) (guid : List ℕ) (descriptors : Bool) → made.descriptors ≡ descriptors → client_accepted (talks_as made now.WaitingForOk left) guid ≡ accepted_as made left guid descriptors
accepted_by made left guid true e = ap (λ (d : Bool). if d then accepted_as made left guid true else accepted_as made left guid false) e
accepted_by made left guid false e = ap (λ (d : Bool). if d then accepted_as made left guid true else accepted_as made left guid false) e

data_asked_step : (made : ClientMachine) (left : List ClientMechanism) → client_step (talks_as made now.WaitingForData left) (server.DataOf []) ≡ asks (talks_as made now.WaitingForData left) (client.DataOf []) now.WaitingForOk
unfolding client_step
data_asked_step made left = refl

answered_step : (made : ClientMachine) (left : List ClientMechanism) (guid : List ℕ) (agrees : Bool) → client_step (wants_agree made left guid) (answer_to_ask agrees) ≡ record { action = Begins; next = has_begun made left guid agrees }
unfolding client_step
answered_step made left guid true = refl
answered_step made left guid false = refl

begin_step : (s : ServerMachine) (agreed : Bool) → server_step (let_in s agreed) client.Begin ≡ record { action = Begins; next = record s { state = at.Begun; agreed = agreed } }
unfolding server_step
begin_step s agreed = refl

asked_step : (s : ServerMachine) → server_step (at_state s at.WaitingForBegin) client.Negotiate ≡ record { action = Sends (answer_to_ask s.descriptors); next = let_in s s.descriptors }
unfolding server_step
asked_step s = by_setting s.descriptors
  where
    by_setting : (d : Bool) → (if d then record { action = Sends server.Agree; next = let_in s true } else complains (at_state s at.WaitingForBegin)) ≡ record { action = Sends (answer_to_ask d); next = let_in s d }
    by_setting true = refl
    by_setting false = refl

-- ---- what both know

all_of : (x y : Bool) → y ≡ true → x ≡ (x && y)
all_of true y e = sym e
all_of false y e = refl

none_of : (x y : Bool) → y ≡ false → false ≡ (x && y)
none_of true y e = sym e
none_of false y e = refl

two_lines : (made : ClientMachine) → made.descriptors ≡ true → last_lines made ≡ 2
two_lines made e = ap (λ (d : Bool). if d then 2 else 1) e

pub one_line : (made : ClientMachine) → 1 ≤ last_lines made
one_line made = by_setting made.descriptors
  where
    by_setting : (d : Bool) → 1 ≤ (if d then 2 else 1)
    by_setting true = lit≤ tt
    by_setting false = lit≤ tt

-- ---- a line is on its way

module _ (s : ServerMachine) (made : ClientMachine) (fits : IsServer s) (w : World) where
  pub to_server : (n : ℕ) → Exchange s made w → Exchange s made (happens w (To_server n))
  to_server n (asked z m left hm hl bound a) = elim (moves server_turn [] n (auth_is_line m hm) a.to_come) [
    | waits_on now side nil ↦ asked (z || now) m left hm hl bound (still a side nil)
    | took t ↦
        let from = at_state s at.WaitingForAuth in
        let read = ap (server_step from) (auth_is_read m hm) in
        elim (auth_step s m hm) [
          | inl refused ↦ rejected (waits_in m) left (awaits m) hl (omega arith) (answers_by a.waiting t (server_line (server.Rejected (mechanisms s))) from (ap server_answers (read ∙ refused)))
          | inr (inl ok) ↦ accepted (waits_in m) left (awaits m) (omega arith) (answers_by a.waiting t (server_line (server.Accepted s.guid)) (at_state s at.WaitingForBegin) (ap server_answers (read ∙ ok)))
          | inr (inr x) ↦
              let q : Quiet w.client w.to_client (talks_as made now.WaitingForData left) true = subst (λ (st : ClientState). Quiet w.client w.to_client (talks_as made st left) true) x.1 a.waiting in
              wants_data left hl bound (answers_by q t (codes "DATA") (at_state s at.WaitingForData) (ap server_answers (read ∙ x.0)))
        ]
  ]
  to_server n (gave_data left hl bound a) = elim (moves server_turn [] n data_is_line a.to_come) [
    | waits_on now side nil ↦ gave_data left hl bound (still a side nil)
    | took t ↦
        let from = at_state s at.WaitingForData in
        accepted now.WaitingForOk left (inl refl) (omega arith)
        (answers_by a.waiting t (server_line (server.Accepted s.guid)) (at_state s at.WaitingForBegin) (ap server_answers (ap (server_step from) data_is_read ∙ data_step s)))
  ]
  to_server n (rejected state left aw hl bound a) = rejected state left aw hl bound (waits_still server_turn n a).1
  to_server n (accepted state left aw bound a) = accepted state left aw bound (waits_still server_turn n a).1
  to_server n (wants_data left hl bound a) = wants_data left hl bound (waits_still server_turn n a).1
  to_server n (asks_descriptors left d bound a) = elim (moves server_turn [] n negotiate_is_line a.to_come) [
    | waits_on now side nil ↦ asks_descriptors left d bound (still a side nil)
    | took t ↦
        answers_ask left d bound
        (answers_by a.waiting t (server_line (answer_to_ask s.descriptors)) (let_in s s.descriptors) (ap server_answers (ap (server_step (at_state s at.WaitingForBegin)) negotiate_is_read ∙ asked_step s)))
  ]
  to_server n (answers_ask left d bound a) = answers_ask left d bound (waits_still server_turn n a).1

  -- after REJECTED comes the next mechanism, or the end
  next_stage : (outcome : EndOutcome ClientEndState) (t : Turn ClientMachine) (left : List ClientMechanism) → t ≡ client_answers (next_among made.descriptors left) → AllByRecursion IsMechanism left
      → line_ends w.client_said + 2 * length left ≤ 2 * length made.left
      → Took outcome w.to_client t [] → Quiet w.server w.to_server (at_state s at.WaitingForAuth) true → Unsaid w.client_wrote w.server_wrote → Stage s made (client_did w outcome)
  next_stage outcome t [] e hl bound k q u =
      let nil : outcome.send ≡ [] = k.send ∙ ap (λ (x : Turn ClientMachine). x.send) e in
      let after = k.after ∙ ap after_turn e in
      over true (omega (arith, line_ends-same w.client_said outcome.send nil, bound))
      (Quiet-nil nil q)
      (record { status = ap (λ (x : ClientEndState). x.status) after; started = ap (λ (x : ClientEndState). x.started) after; carries = k.carries })
      u
  next_stage outcome t (m ∷ ms) e hl bound k q u =
      let sent : outcome.send ≡ ended (client_line (auth_line m)) = k.send ∙ ap (λ (x : Turn ClientMachine). x.send) e in
      speaks (asked true m ms hl.0 hl.1 (omega (arith, line_ends-more w.client_said outcome.send (client_line (auth_line m)) sent (auth_is_line m hl.0), bound))
      (answers_by q k (client_line (auth_line m)) (talks_as made (waits_in m) ms) e)) u

  -- the client begins, and knows of descriptors what the server knows
  begins_stage : (outcome : EndOutcome ClientEndState) (t : Turn ClientMachine) (left : List ClientMechanism) (agreed : Bool) → agreed ≡ agree s made
      → t ≡ client_answers (record { action = Begins; next = has_begun made left s.guid agreed }) → line_ends w.client_said + 1 ≤ 2 * length made.left + last_lines made
      → Took outcome w.to_client t [] → Quiet w.server w.to_server (let_in s agreed) true → Unsaid w.client_wrote w.server_wrote → Stage s made (client_did w outcome)
  begins_stage outcome t left agreed same e bound k q u =
      let sent : outcome.send ≡ ended (codes "BEGIN") = k.send ∙ ap (λ (x : Turn ClientMachine). x.send) e in
      let after = k.after ∙ ap after_turn e in
      began (omega (arith, line_ends-more w.client_said outcome.send (codes "BEGIN") sent begin_is_line, bound))
      (record {
        end = record {
          status = ap (λ (x : ClientEndState). x.status) after;
          started = ap (λ (x : ClientEndState). x.started) after;
          guid_is = ap (λ (x : ClientEndState). x.machine.guid) after;
          agreed_is = ap (λ (x : ClientEndState). x.machine.agreed) after ∙ same;
        };
        carries = subst (λ (b : List ℕ). Carries (taking w.to_client outcome.taken) b) (sym u.server) k.carries;
      })
      (confirming
      (subst (λ (x : Bool). Side w.server (sending w.to_server outcome.send) (let_in s x) true (ended (codes "BEGIN") ++ w.client_wrote)) same
      (Quiet-sending (ended (codes "BEGIN") ++ w.client_wrote) q (sent ∙ sym (append-nil (ended (codes "BEGIN"))) ∙ ap (λ (x : List ℕ). ended (codes "BEGIN") ++ x) (sym u.client)))) u.server)

  -- OK was taken
  accepted_stage : (n : ℕ) (state : ClientState) (left : List ClientMechanism) → IsAwaiting state → line_ends w.client_said ≤ 2 * length made.left
      → Took (heard w n) w.to_client (client_turn (talks_as made state left) (server_line (server.Accepted s.guid))) [] → Quiet w.server w.to_server (at_state s at.WaitingForBegin) true → Unsaid w.client_wrote w.server_wrote
      → (descriptors : Bool) → made.descriptors ≡ descriptors → Stage s made (client_did w (heard w n))
  accepted_stage n state left aw bound t q u true d =
      let e = ap client_answers (ap (client_step (talks_as made state left)) (accepted_is_read s fits) ∙ accepted_step made state left s.guid aw ∙ accepted_by made left s.guid true d) in
      let sent : (heard w n).send ≡ ended (codes "NEGOTIATE_UNIX_FD") = t.send ∙ ap (λ (x : Turn ClientMachine). x.send) e in
      speaks (asks_descriptors left d (omega (arith, line_ends-more w.client_said (heard w n).send (codes "NEGOTIATE_UNIX_FD") sent negotiate_is_line, bound))
      (answers_by q t (codes "NEGOTIATE_UNIX_FD") (wants_agree made left s.guid) e)) u
  accepted_stage n state left aw bound t q u false d =
      begins_stage (heard w n) (client_turn (talks_as made state left) (server_line (server.Accepted s.guid))) left false (none_of s.descriptors made.descriptors d)
      (ap client_answers (ap (client_step (talks_as made state left)) (accepted_is_read s fits) ∙ accepted_step made state left s.guid aw ∙ accepted_by made left s.guid false d))
      (omega (arith, bound, one_line made)) t q u

  pub to_client : (n : ℕ) → Exchange s made w → Unsaid w.client_wrote w.server_wrote → Stage s made (client_did w (heard w n))
  to_client n (asked z m left hm hl bound a) u =
      let x = waits_still client_turn n a in speaks (asked z m left hm hl (omega (arith, line_ends-same w.client_said (heard w n).send x.0, bound)) x.1) u
  to_client n (gave_data left hl bound a) u =
      let x = waits_still client_turn n a in speaks (gave_data left hl (omega (arith, line_ends-same w.client_said (heard w n).send x.0, bound)) x.1) u
  to_client n (rejected state left aw hl bound a) u = elim (moves client_turn [] n (rejected_is_line s) a.to_come) [
    | waits_on now side nil ↦ speaks (rejected state left aw hl (omega (arith, line_ends-same w.client_said (heard w n).send nil, bound)) (still a side nil)) u
    | took t ↦
        next_stage (heard w n) (client_turn (talks_as made state left) (server_line (server.Rejected (mechanisms s)))) left
        (ap client_answers (ap (client_step (talks_as made state left)) (rejected_is_read s) ∙ rejected_step made state left (mechanisms s) aw)) hl bound t a.waiting u
  ]
  to_client n (accepted state left aw bound a) u = elim (moves client_turn [] n (accepted_is_line s fits) a.to_come) [
    | waits_on now side nil ↦ speaks (accepted state left aw (omega (arith, line_ends-same w.client_said (heard w n).send nil, bound)) (still a side nil)) u
    | took t ↦ accepted_stage n state left aw bound t a.waiting u made.descriptors refl
  ]
  to_client n (wants_data left hl bound a) u = elim (moves client_turn [] n data_is_line a.to_come) [
    | waits_on now side nil ↦ speaks (wants_data left hl (omega (arith, line_ends-same w.client_said (heard w n).send nil, bound)) (still a side nil)) u
    | took t ↦
        let from = talks_as made now.WaitingForData left in
        let e = ap client_answers (ap (client_step from) server_data_is_read ∙ data_asked_step made left) in
        let sent : (heard w n).send ≡ ended (codes "DATA") = t.send ∙ ap (λ (x : Turn ClientMachine). x.send) e in
        speaks (gave_data left hl (omega (arith, line_ends-more w.client_said (heard w n).send (codes "DATA") sent data_is_line, bound))
        (answers_by a.waiting t (codes "DATA") (talks_as made now.WaitingForOk left) e)) u
  ]
  to_client n (asks_descriptors left d bound a) u =
      let x = waits_still client_turn n a in speaks (asks_descriptors left d (omega (arith, line_ends-same w.client_said (heard w n).send x.0, bound)) x.1) u
  to_client n (answers_ask left d bound a) u = elim (moves client_turn [] n (answer_is_line s.descriptors) a.to_come) [
    | waits_on now side nil ↦ speaks (answers_ask left d (omega (arith, line_ends-same w.client_said (heard w n).send nil, bound)) (still a side nil)) u
    | took t ↦
        begins_stage (heard w n) (client_turn (wants_agree made left s.guid) (server_line (answer_to_ask s.descriptors))) left s.descriptors (all_of s.descriptors made.descriptors d)
        (ap client_answers (ap (client_step (wants_agree made left s.guid)) (answer_is_read s.descriptors) ∙ answered_step made left s.guid s.descriptors))
        (omega (arith, bound, two_lines made d)) t a.waiting u
  ]

-- ---- the start

started_with : (made : ClientMachine) (e : ClientEndState) (m : ClientMechanism) (ms : List ClientMechanism) → e ≡ not_started (talks_as made now.Fresh (m ∷ ms)) →
    client_starts e ≡ record {
      after = record { machine = talks_as made (waits_in m) ms; started = true; kept = []; status = status.Talking; left = None };
      taken = 0;
      send = 0 ∷ ended (client_line (auth_line m));
    }
unfolding client_starts
started_with made e m ms h = ap client_starts h

started_without : (made : ClientMachine) (e : ClientEndState) → e ≡ not_started (talks_as made now.Fresh []) →
    client_starts e ≡ record {
      after = record { machine = talks_as made now.Closed []; started = true; kept = []; status = status.Closed; left = None };
      taken = 0;
      send = [];
    }
unfolding client_starts
started_without made e h = ap client_starts h

zero_is_no_end : (bytes : List ℕ) → line_ends (0 ∷ bytes) ≡ line_ends bytes
zero_is_no_end bytes = omega (arith, line_ends-append (0 ∷ []) bytes)

same_lines : (w : World) → line_ends (w.client_said ++ []) ≡ line_ends w.client_said
same_lines w = ap line_ends (append-nil w.client_said)

module _ (s : ServerMachine) (made : ClientMachine) (w : World) where
  pub first_stage : (ms : List ClientMechanism) → ms ≡ made.left → AllByRecursion IsMechanism ms → w.client ≡ not_started (talks_as made now.Fresh ms) → Fresh s made w → Stage s made (client_did w (client_starts w.client))
  first_stage [] e hl c f = rw (started_without made w.client c) (over false
      (omega (arith, same_lines w, ap line_ends f.said))
      (Quiet-nil refl f.server)
      (record { status = refl; started = refl; carries = Carries-taking w.to_client [] f.client.carries })
      (f.unsaid))
  first_stage (m ∷ ms) e hl c f =
      let sent = ended (client_line (auth_line m)) in
      let size : length made.left ≡ suc (length ms) = ap length (sym e) in
      rw (started_with made w.client m ms c) (speaks (asked false m ms hl.0 hl.1
      (omega (arith, size, line_ends-append w.client_said (0 ∷ sent), ap line_ends f.said, zero_is_no_end sent, line_ends-ended (client_line (auth_line m)) (auth_is_line m hl.0)))
      (record {
        to_come = Quiet-sending (sent ++ []) f.server (ap (λ (x : List ℕ). 0 ∷ x) (sym (append-nil sent)));
        waiting = record { end = refl; carries = Carries-taking w.to_client [] f.client.carries };
      })) f.unsaid)

  pub fresh-start : Fresh s made w → happens w Start ≡ client_did w (client_starts w.client)
  fresh-start f = ap (λ (e : ClientEndState). start_once w e.started) f.client.end

  pub fresh-to_server : (n : ℕ) → Fresh s made w → Stage s made (happens w (To_server n))
  fresh-to_server n f =
      let st = stays server_turn n f.server in
      fresh (record { server = st.quiet; client = Quiet-nil st.send f.client; said = f.said; unsaid = f.unsaid })

  pub fresh-to_client : (n : ℕ) → Fresh s made w → happens w (To_client n) ≡ w
  fresh-to_client n f = ap (λ (e : ClientEndState). hand_client w n e.started) f.client.end

  -- ---- an end that takes nothing more

  -- the client has begun or is closed
  pub client_done : (n : ℕ) → w.client.started ≡ true → (w.client.status ≡ status.Begun) ⊎ (w.client.status ≡ status.Closed) → happens w (To_client n) ≡ client_did w (nothing w.client)
  client_done n started st = to_client_of w n started ∙ ap (client_did w) (is_done client_turn w.client (take n (untaken w.to_client)) st)

  -- the server's end does something that sends nothing
  began_beside : (send : List ℕ) → send ≡ [] → ClientBegan w.client w.to_client w.server_wrote s.guid (agree s made) → ClientBegan w.client (sending w.to_client send) w.server_wrote s.guid (agree s made)
  began_beside send nil b = record { end = b.end; carries = Carries-nil w.to_client w.server_wrote send nil b.carries }

  pub began-to_server : (n : ℕ) → line_ends w.client_said ≤ 2 * length made.left + last_lines made → ClientBegan w.client w.to_client w.server_wrote s.guid (agree s made) → Follows s (agree s made) w → Stage s made (happens w (To_server n))
  began-to_server n bound b (confirming side nil) = elim (moves server_turn w.client_wrote n begin_is_line side) [
    | waits_on now more none ↦ began bound (began_beside (served w n).send none b) (confirming more nil)
    | took t ↦
        let e = ap server_answers (ap (server_step (let_in s (agree s made))) begin_is_read ∙ begin_step s (agree s made)) in
        let after = t.after ∙ ap after_turn e in
        began bound (began_beside (served w n).send (t.send ∙ ap (λ (x : Turn ServerMachine). x.send) e) b)
        (both (record { status = ap (λ (x : ServerEndState). x.status) after; state_is = ap (λ (x : ServerEndState). x.machine.state) after; agreed_is = ap (λ (x : ServerEndState). x.machine.agreed) after; carries = t.carries }))
  ]
  began-to_server n bound b (both a) =
      rw (ap (server_did w) (is_done server_turn w.server (take n (untaken w.to_server)) (inl a.status)))
      (began bound (began_beside [] refl b) (both (record { status = a.status; state_is = a.state_is; agreed_is = a.agreed_is; carries = Carries-taking w.to_server w.client_wrote a.carries })))

  follows_on : Follows s (agree s made) w → Follows s (agree s made) (client_did w (nothing w.client))
  follows_on (confirming side nil) = confirming (Side-nil refl side) nil
  follows_on (both a) = both (record { status = a.status; state_is = a.state_is; agreed_is = a.agreed_is; carries = Carries-nil w.to_server w.client_wrote [] refl a.carries })

  pub began-to_client : (n : ℕ) → line_ends w.client_said ≤ 2 * length made.left + last_lines made → ClientBegan w.client w.to_client w.server_wrote s.guid (agree s made) → Follows s (agree s made) w → Stage s made (happens w (To_client n))
  began-to_client n bound b x =
      rw (client_done n b.end.started (inl b.end.status))
      (began (omega (arith, same_lines w)) (record { end = b.end; carries = Carries-taking w.to_client w.server_wrote b.carries }) (follows_on x))

  pub began-server_writes : (bytes : List ℕ) → line_ends w.client_said ≤ 2 * length made.left + last_lines made → ClientBegan w.client w.to_client w.server_wrote s.guid (agree s made) → ServerBegan w.server w.to_server w.client_wrote (agree s made) → Stage s made (happens w (Server_writes bytes))
  began-server_writes bytes bound b a =
      rw (ap (server_writes w bytes) a.status)
      (began bound (record { end = b.end; carries = Carries-sending w.to_client w.server_wrote bytes b.carries }) (both (record { status = a.status; state_is = a.state_is; agreed_is = a.agreed_is; carries = a.carries })))

  writes_on : (bytes : List ℕ) → Follows s (agree s made) w → Follows s (agree s made) (client_writes w bytes status.Begun)
  writes_on bytes (confirming side nil) = confirming (rw (← append_assoc (ended (codes "BEGIN")) w.client_wrote bytes) (Side-more bytes side)) nil
  writes_on bytes (both a) = both (record { status = a.status; state_is = a.state_is; agreed_is = a.agreed_is; carries = Carries-sending w.to_server w.client_wrote bytes a.carries })

  pub began-client_writes : (bytes : List ℕ) → line_ends w.client_said ≤ 2 * length made.left + last_lines made → ClientBegan w.client w.to_client w.server_wrote s.guid (agree s made) → Follows s (agree s made) w → Stage s made (happens w (Client_writes bytes))
  began-client_writes bytes bound b x = rw (ap (client_writes w bytes) b.end.status) (began bound (record { end = b.end; carries = b.carries }) (writes_on bytes x))

  pub over-to_server : (n : ℕ) (z : Bool) → line_ends w.client_said ≤ 2 * length made.left + last_lines made
      → Quiet w.server w.to_server (at_state s at.WaitingForAuth) z → ClientClosed w.client w.to_client → Unsaid w.client_wrote w.server_wrote → Stage s made (happens w (To_server n))
  over-to_server n z bound q c u =
      let st = stays server_turn n q in
      over z bound st.quiet (record { status = c.status; started = c.started; carries = Carries-nil w.to_client [] (served w n).send st.send c.carries }) u

  pub over-to_client : (n : ℕ) (z : Bool) → line_ends w.client_said ≤ 2 * length made.left + last_lines made
      → Quiet w.server w.to_server (at_state s at.WaitingForAuth) z → ClientClosed w.client w.to_client → Unsaid w.client_wrote w.server_wrote → Stage s made (happens w (To_client n))
  over-to_client n z bound q c u =
      rw (client_done n c.started (inr c.status)) (over z (omega (arith, same_lines w)) (Quiet-nil refl q) (record { status = c.status; started = c.started; carries = Carries-taking w.to_client [] c.carries }) u)

-- Acts of servers are equal exactly where they do the same.

abbrev line_of : ServerAction → ServerCommand
line_of (Sends line) = line
line_of _ = server.Other

module _ (A : RattleType) (laws : allocator.Ghosts A.Denot) (d e : Dict) where
  pub server_acts_equal : (a b : ServerAct A.Denot) → Decides ((act_eq.ghosts A laws d e).eq a b) (server_action a ≡ server_action b)
  server_acts_equal (act.Send x) (act.Send y) =
      let same = server_lines_equal A laws d e x y in
      (λ t. ap Sends (same.0 t), λ h. same.1 (ap line_of h))
  server_acts_equal (act.Send x) act.Begin = grind (arith, common_steps)
  server_acts_equal (act.Send x) act.Disconnect = grind (arith, common_steps)
  server_acts_equal act.Begin b = grind (arith, common_steps)
  server_acts_equal act.Disconnect b = grind (arith, common_steps)
