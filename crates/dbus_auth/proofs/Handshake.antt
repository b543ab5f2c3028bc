-- The law of the handshake: where the two ends and the bytes between them stand, after every list
-- of events.
use Rattle.std.proofs.Common.{◌≡◌, ◌⊎◌, inl, inr, ℕ, ◌+◌, ◌*◌, ◌≤◌, Bool, true, false, List, [], ◌∷◌, ◌++◌, length, take, refl, sym, ◌∙◌, ap, arith, append_assoc}
use Rattle.std.specs.List.{AllByRecursion}
use Rattle.std.proofs.lemmas.List.{append-nil}
use Rattle.dbus_auth.specs.Machines.{ServerMachine, ClientMachine, IsServer, IsMechanism}
use Rattle.dbus_auth.specs.Ends.{ServerEndState, ClientEndState, client_turn, client_takes, client_starts}
use Rattle.dbus_auth.specs.World.{untaken, silent, World, Event, Start, To_server, To_client, Server_writes, Client_writes, server_writes, client_writes, start_once, hand_client, happens, run, at_first, line_ends, last_lines, Handshake}
use Rattle.dbus_auth.specs.declared.end_step.Status.{Status}
use Rattle.dbus_auth.specs.declared.end_step.Status.TheVariants as status
use Rattle.dbus_auth.specs.declared.states.ServerState.TheVariants as at
use Rattle.dbus_auth.proofs.Sides.{Carries, is_done}
use Rattle.dbus_auth.proofs.Stages.{both_talk, ClientBegan, ServerBegan, Exchange, asked, gave_data, rejected, accepted, wants_data, asks_descriptors, answers_ask, agree, confirming, both, Stage, fresh, speaks, began, over, start_same, server_mute, client_mute, client_mute_closed, to_client_of}
use Rattle.dbus_auth.proofs.Steps.{one_line, to_server, to_client, first_stage, fresh-start, fresh-to_server, fresh-to_client, began-to_server, began-to_client, began-server_writes, began-client_writes, over-to_server, over-to_client}

-- ---- what the stages say of the server and of lines

record Speaking (made : ClientMachine) (w : World) : Type 0 where
  server : w.server.status ≡ status.Talking
  client : w.client.status ≡ status.Talking
  started : w.client.started ≡ true
  lines : line_ends w.client_said ≤ 2 * length made.left + last_lines made

speaking : {s : ServerMachine} {made : ClientMachine} {w : World} → Exchange s made w → Speaking made w
speaking {made = made} (asked z m left hm hl b a) = let t = both_talk a in record { server = t.0; client = t.1; started = t.3; lines = omega (arith, b, one_line made) }
speaking {made = made} (gave_data left hl b a) = let t = both_talk a in record { server = t.0; client = t.1; started = t.3; lines = omega (arith, b, one_line made) }
speaking {made = made} (rejected st left aw hl b a) = let t = both_talk a in record { server = t.1; client = t.0; started = t.2; lines = omega (arith, b, one_line made) }
speaking {made = made} (accepted st left aw b a) = let t = both_talk a in record { server = t.1; client = t.0; started = t.2; lines = omega (arith, b, one_line made) }
speaking {made = made} (wants_data left hl b a) = let t = both_talk a in record { server = t.1; client = t.0; started = t.2; lines = omega (arith, b, one_line made) }
speaking {made = made} (asks_descriptors left d b a) = let t = both_talk a in record { server = t.0; client = t.1; started = t.3; lines = omega (arith, b, one_line made) }
speaking {made = made} (answers_ask left d b a) = let t = both_talk a in record { server = t.1; client = t.0; started = t.2; lines = omega (arith, b, one_line made) }

record ServerSees (s : ServerMachine) (made : ClientMachine) (w : World) : Type 0 where
  server : ServerBegan w.server w.to_server w.client_wrote (agree s made)
  client : ClientBegan w.client w.to_client w.server_wrote s.guid (agree s made)

server_sees : (s : ServerMachine) (made : ClientMachine) (w : World) → Stage s made w → (w.server.status ≡ status.Talking) ⊎ ServerSees s made w
server_sees s made w (fresh f) = inl (ap (λ (e : ServerEndState). e.status) f.server.end)
server_sees s made w (speaks x u) = inl (speaking x).server
server_sees s made w (began b c (confirming side nil)) = inl side.talking
server_sees s made w (began b c (both a)) = inr (record { server = a; client = c })
server_sees s made w (over z b q c u) = inl (ap (λ (e : ServerEndState). e.status) q.end)

few_lines : (s : ServerMachine) (made : ClientMachine) (w : World) → Stage s made w → line_ends w.client_said ≤ 2 * length made.left + last_lines made
few_lines s made w (fresh f) = omega (arith, ap line_ends f.said)
few_lines s made w (speaks x u) = (speaking x).lines
few_lines s made w (began b c x) = b
few_lines s made w (over z b q c u) = b

-- ---- each event keeps it

server_writes-keeps : (s : ServerMachine) (made : ClientMachine) (w : World) (bytes : List ℕ) → Stage s made w → (w.server.status ≡ status.Talking) ⊎ ServerSees s made w → Stage s made (happens w (Server_writes bytes))
server_writes-keeps s made w bytes st (inl talking) = rw (server_mute w bytes talking) st
server_writes-keeps s made w bytes st (inr sees) = began-server_writes s made w bytes (few_lines s made w st) sees.client sees.server

keeps : (s : ServerMachine) (made : ClientMachine) → IsServer s → AllByRecursion IsMechanism made.left → (w : World) (e : Event) → Stage s made w → Stage s made (happens w e)
keeps s made hs ha w Start (fresh f) = rw (fresh-start s made w f) (first_stage s made w made.left refl ha f.client.end f)
keeps s made hs ha w Start (speaks x u) = rw (start_same w (speaking x).started) (speaks x u)
keeps s made hs ha w Start (began b c x) = rw (start_same w c.end.started) (began b c x)
keeps s made hs ha w Start (over z b q c u) = rw (start_same w c.started) (over z b q c u)
keeps s made hs ha w (To_server n) (fresh f) = fresh-to_server s made w n f
keeps s made hs ha w (To_server n) (speaks x u) = speaks (to_server s made hs w n x) u
keeps s made hs ha w (To_server n) (began b c x) = began-to_server s made w n b c x
keeps s made hs ha w (To_server n) (over z b q c u) = over-to_server s made w n z b q c u
keeps s made hs ha w (To_client n) (fresh f) = rw (fresh-to_client s made w n f) (fresh f)
keeps s made hs ha w (To_client n) (speaks x u) = rw (to_client_of w n (speaking x).started) (to_client s made hs w n x u)
keeps s made hs ha w (To_client n) (began b c x) = began-to_client s made w n b c x
keeps s made hs ha w (To_client n) (over z b q c u) = over-to_client s made w n z b q c u
keeps s made hs ha w (Server_writes x) st = server_writes-keeps s made w x st (server_sees s made w st)
keeps s made hs ha w (Client_writes x) (fresh f) = rw (client_mute w x (ap (λ (e : ClientEndState). e.status) f.client.end)) (fresh f)
keeps s made hs ha w (Client_writes x) (speaks y u) = rw (client_mute w x (speaking y).client) (speaks y u)
keeps s made hs ha w (Client_writes x) (began b c y) = began-client_writes s made w x b c y
keeps s made hs ha w (Client_writes x) (over z b q c u) = rw (client_mute_closed w x c.status) (over z b q c u)

silent_carries : Carries silent []
silent_carries = record { left = refl; on_wire = record { within = omega arith } }

at_first_is : (s : ServerMachine) (made : ClientMachine) → Stage s made (at_first s made)
at_first_is s made = fresh (record {
  server = record { end = refl; carries = silent_carries };
  client = record { end = refl; carries = silent_carries };
  said = refl;
  unsaid = record { client = refl; server = refl };
})

-- ---- what its caller sent stands after what the client's end sent

record Ordered (w : World) : Type 0 where
  order : w.to_server.sent ≡ w.client_said ++ w.client_wrote

-- a client whose caller has sent something has begun
abbrev WroteLate : World → Type 0
WroteLate w = (w.client_wrote ≡ []) ⊎ ((w.client.status ≡ status.Begun) × (w.client.started ≡ true))

wrote_late : (s : ServerMachine) (made : ClientMachine) (w : World) → Stage s made w → WroteLate w
wrote_late s made w (fresh f) = inl f.unsaid.client
wrote_late s made w (speaks x u) = inl u.client
wrote_late s made w (began b c x) = inr (c.end.status, c.end.started)
wrote_late s made w (over z b q c u) = inl u.client

sends_first : (sent said wrote send : List ℕ) → sent ≡ said ++ wrote → wrote ≡ [] → sent ++ send ≡ (said ++ send) ++ wrote
sends_first sent said wrote send e nil =
    ap (λ (x : List ℕ). x ++ send) (e ∙ ap (λ (x : List ℕ). said ++ x) nil ∙ append-nil said) ∙ sym (append-nil (said ++ send)) ∙ ap (λ (x : List ℕ). (said ++ send) ++ x) (sym nil)

writes_last : (sent said wrote more : List ℕ) → sent ≡ said ++ wrote → sent ++ more ≡ said ++ (wrote ++ more)
writes_last sent said wrote more e = ap (λ (x : List ℕ). x ++ more) e ∙ append_assoc said wrote more

sends_none : (sent said wrote : List ℕ) → sent ≡ said ++ wrote → sent ++ [] ≡ (said ++ []) ++ wrote
sends_none sent said wrote e = append-nil sent ∙ e ∙ ap (λ (x : List ℕ). x ++ wrote) (sym (append-nil said))

ordered_start : (w : World) → Ordered w → WroteLate w → (b : Bool) → b ≡ w.client.started → Ordered (start_once w b)
ordered_start w h st true e = h
ordered_start w h (inl nil) false e = record { order = sends_first w.to_server.sent w.client_said w.client_wrote (client_starts w.client).send h.order nil }
ordered_start w h (inr b) false e = absurd (let x : false ≡ true = e ∙ b.1 in cc)

ordered_takes : (w : World) (n : ℕ) → Ordered w → WroteLate w → (b : Bool) → Ordered (hand_client w n b)
ordered_takes w n h st false = h
ordered_takes w n h (inl nil) true = record { order = sends_first w.to_server.sent w.client_said w.client_wrote (client_takes w.client (take n (untaken w.to_client))).send h.order nil }
ordered_takes w n h (inr b) true = rw (is_done client_turn w.client (take n (untaken w.to_client)) (inl b.0)) (record { order = sends_none w.to_server.sent w.client_said w.client_wrote h.order })

ordered_client_writes : (w : World) (bytes : List ℕ) → Ordered w → (st : Status) → Ordered (client_writes w bytes st)
ordered_client_writes w bytes h status.Begun = record { order = writes_last w.to_server.sent w.client_said w.client_wrote bytes h.order }
ordered_client_writes w bytes h status.Talking = h
ordered_client_writes w bytes h status.Closed = h

ordered_server_writes : (w : World) (bytes : List ℕ) → Ordered w → (st : Status) → Ordered (server_writes w bytes st)
ordered_server_writes w bytes h status.Begun = record { order = h.order }
ordered_server_writes w bytes h status.Talking = h
ordered_server_writes w bytes h status.Closed = h

keeps_order : (w : World) (e : Event) → WroteLate w → Ordered w → Ordered (happens w e)
keeps_order w Start late h = ordered_start w h late w.client.started refl
keeps_order w (To_server n) late h = record { order = h.order }
keeps_order w (To_client n) late h = ordered_takes w n h late w.client.started
keeps_order w (Server_writes bytes) late h = ordered_server_writes w bytes h w.server.status
keeps_order w (Client_writes bytes) late h = ordered_client_writes w bytes h w.client.status

run_keeps : (s : ServerMachine) (made : ClientMachine) → IsServer s → AllByRecursion IsMechanism made.left → (es : List Event) (w : World) → Stage s made w → Ordered w → Stage s made (run es w) × Ordered (run es w)
run_keeps s made hs ha [] w st o = (st, o)
run_keeps s made hs ha (e ∷ es) w st o = run_keeps s made hs ha es (happens w e) (keeps s made hs ha w e st) (keeps_order w e (wrote_late s made w st) o)

-- ---- what the stages say

record ClientSees (s : ServerMachine) (made : ClientMachine) (w : World) : Type 0 where
  client : ClientBegan w.client w.to_client w.server_wrote s.guid (agree s made)
  server : (w.server.machine.state ≡ at.WaitingForBegin) ⊎ (w.server.machine.state ≡ at.Begun)
  agreed : w.server.machine.agreed ≡ agree s made

client_sees : (s : ServerMachine) (made : ClientMachine) (w : World) → Stage s made w → ((w.client.status ≡ status.Talking) ⊎ (w.client.status ≡ status.Closed)) ⊎ ClientSees s made w
client_sees s made w (fresh f) = inl (inl (ap (λ (e : ClientEndState). e.status) f.client.end))
client_sees s made w (speaks x u) = inl (inl (speaking x).client)
client_sees s made w (began b c (confirming side nil)) = inr (record { client = c; server = inl (ap (λ (x : ServerMachine). x.state) side.is); agreed = ap (λ (x : ServerMachine). x.agreed) side.is })
client_sees s made w (began b c (both a)) = inr (record { client = c; server = inr a.state_is; agreed = a.agreed_is })
client_sees s made w (over z b q c u) = inl (inr c.status)

module _ (s : ServerMachine) (made : ClientMachine) (w : World) where
  when_server : {A : Type 0} → (w.server.status ≡ status.Talking) ⊎ ServerSees s made w → (ServerSees s made w → A) → w.server.status ≡ status.Begun → A
  when_server (inl t) f h = absurd (let x : status.Talking ≡ status.Begun = sym t ∙ h in cc)
  when_server (inr b) f h = f b

  when_client : {A : Type 0} → ((w.client.status ≡ status.Talking) ⊎ (w.client.status ≡ status.Closed)) ⊎ ClientSees s made w → (ClientSees s made w → A) → w.client.status ≡ status.Begun → A
  when_client (inl (inl t)) f h = absurd (let x : status.Talking ≡ status.Begun = sym t ∙ h in cc)
  when_client (inl (inr t)) f h = absurd (let x : status.Closed ≡ status.Begun = sym t ∙ h in cc)
  when_client (inr b) f h = f b

concludes : (s : ServerMachine) (made : ClientMachine) (w : World) → Stage s made w → Ordered w → Handshake s made w
concludes s made w st o =
    let sv = server_sees s made w st in
    let cl = client_sees s made w st in
    record {
      client_began = when_server s made w sv (λ x. x.client.end.status);
      same_guid = when_client s made w cl (λ x. x.client.end.guid_is);
      server_stands = when_client s made w cl (λ x. x.server);
      same_agreed = when_client s made w cl (λ x. x.client.end.agreed_is ∙ sym x.agreed);
      agreed = when_client s made w cl (λ x. x.agreed);
      to_server = when_server s made w sv (λ x. x.server.carries.left);
      to_client = when_client s made w cl (λ x. x.client.carries.left);
      order = o.order;
      lines = few_lines s made w st;
    }

-- the law
pub handshake : (s : ServerMachine) (made : ClientMachine) (es : List Event) → IsServer s → AllByRecursion IsMechanism made.left → Handshake s made (run es (at_first s made))
handshake s made es hs ha =
    let kept = run_keeps s made hs ha es (at_first s made) (at_first_is s made) (record { order = refl }) in
    concludes s made (run es (at_first s made)) kept.0 kept.1
