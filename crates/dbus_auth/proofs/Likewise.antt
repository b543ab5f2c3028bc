-- A handshake of ends with bounds is one of ends without them, up to where an end closes past its
-- bounds: what is said of the one is said of the other.
use Rattle.std.proofs.Common.{◌≡◌, ◌⊎◌, inl, inr, ℕ, ◌+◌, ◌-◌, ◌==◌, Bool, true, false, cond, List, [], ◌∷◌, ◌++◌, length, take, Option, Some, None, refl, sym, ◌∙◌, ap, subst, arith}
use Rattle.std.specs.List.{AllByRecursion}
use Rattle.std.proofs.lemmas.List.{append-nil}
use Rattle.dbus_auth_lines.specs.Cut.{Cut, Ends, Bad, More, cut}
use Rattle.dbus_auth.specs.Machines.{ClientMachine, IsMechanism, IsServer, ServerMachine}
use Rattle.dbus_auth.specs.Ends.{ClientEndState, EndOutcome, EndState, ServerEndState, Turn, answers, answers_if, client_starts, client_takes, client_turn, closes, cuts, first, left_after, server_takes, server_turn, takes, takes_at, talks}
use Rattle.dbus_auth.specs.World.{Client_writes, Event, Handshake, Server_writes, Start, To_client, To_server, Wire, World, at_first, client_did, client_writes, hand_client, happens, run, sending, server_did, server_writes, start_once, taking, untaken}
use Rattle.dbus_auth.specs.Bounded.{at_first_within}
use Rattle.dbus_auth.specs.declared.bounds.Bounds.{Bounds}
use Rattle.dbus_auth.specs.declared.end_step.Status.{Status}
use Rattle.dbus_auth.specs.declared.end_step.Status.TheVariants as status
use Rattle.dbus_auth.proofs.Handshake.{handshake}

-- ---- two ends

-- an end as another one, with other bounds and another status
abbrev as_is : {M : Type 0} → EndState M → Option Bounds → Status → EndState M
as_is f left st = record f { left = left; status = st }

-- the one stands as the other, or closed while the other still talks
abbrev Stands : Status → Status → Type 0
Stands st other = (st ≡ other) ⊎ ((st ≡ status.Closed) × (other ≡ status.Talking))

record Like {M : Type 0} (e f : EndState M) : Type 0 where
  same : e ≡ as_is f e.left e.status
  free : f.left ≡ None
  stands : Stands e.status f.status

module _ {M : Type 0} where
  -- both did the same, or the one took and sent nothing
  data Alike (o : EndOutcome (EndState M)) (f : EndState M) (p : EndOutcome (EndState M)) : Type 0 where
    both : Like o.after p.after → o.taken ≡ p.taken → o.send ≡ p.send → Alike o f p
    still : Like o.after f → o.taken ≡ 0 → o.send ≡ [] → Alike o f p

  closed_like : (f : EndState M) (left : Option Bounds) → f.left ≡ None → f.status ≡ status.Talking → Like (as_is f left status.Closed) f
  closed_like f left free talking = record { same = refl; free = free; stands = inr (refl, talking) }

  shut_like : (f : EndState M) (left : Option Bounds) → f.left ≡ None → Like (as_is f left status.Closed) (record f { status = status.Closed })
  shut_like f left free = record { same = refl; free = free; stands = inl refl }

module _ {M : Type 0} (turn : M → List ℕ → Turn M) (f : EndState M) (left : Option Bounds) (free : f.left ≡ None) (talking : f.status ≡ status.Talking) where
  abbrev e : EndState M
  e = as_is f left status.Talking

  like_answer : (taken : ℕ) (t : Turn M) (l : Option (Option Bounds)) → Alike (answers_if turn e taken t l) f (answers_if turn f taken t (Some None))
  like_answer taken t None = still (closed_like f left free talking) refl refl
  like_answer taken t (Some l) = both (record { same = refl; free = refl; stands = inl refl }) refl refl

  like_cut : (skipped : ℕ) (bs : List ℕ) (c : Cut) → Alike (cuts turn e skipped bs c) f (cuts turn f skipped bs c)
  like_cut skipped bs (Ends size) =
      let taken = skipped + (size - length f.kept) in
      let t = turn f.machine (take (size - 2) (f.kept ++ bs)) in
      subst (λ (l : Option Bounds). Alike (answers turn e taken t) f (answers_if turn f taken t (left_after l t.counts))) (sym free)
      (like_answer taken t (left_after left t.counts))
  like_cut skipped bs (Bad fault) = both (shut_like f left free) refl refl
  like_cut skipped bs More = both (record { same = refl; free = free; stands = inl (sym talking) }) refl refl

  like_first : (piece : List ℕ) → Alike (first turn e piece) f (first turn f piece)
  like_first [] = still (record { same = refl; free = free; stands = inl (sym talking) }) refl refl
  like_first (b ∷ bs) = by_zero (b == 0)
    where
      by_zero : (z : Bool) → Alike (cond z (cuts turn e 1 bs (cut (f.kept ++ bs))) (closes e)) f (cond z (cuts turn f 1 bs (cut (f.kept ++ bs))) (closes f))
      by_zero true = like_cut 1 bs (cut (f.kept ++ bs))
      by_zero false = both (shut_like f left free) refl refl

  like_talk : (piece : List ℕ) (started : Bool) → Alike (talks turn e piece started) f (talks turn f piece started)
  like_talk piece true = like_cut 0 piece (cut (f.kept ++ piece))
  like_talk piece false = like_first piece

module _ {M : Type 0} (turn : M → List ℕ → Turn M) where
  like_at : (f : EndState M) (left : Option Bounds) (piece : List ℕ) → f.left ≡ None → (st other : Status) → f.status ≡ other → Stands st other
      → Alike (takes_at turn (as_is f left st) piece st) f (takes_at turn f piece other)
  like_at f left piece free status.Talking status.Talking is s = like_talk turn f left free is piece f.started
  like_at f left piece free status.Talking status.Begun is (inl same) = cc same
  like_at f left piece free status.Talking status.Closed is (inl same) = cc same
  like_at f left piece free status.Talking other is (inr c) = (let x : status.Talking ≡ status.Closed = c.0 in cc)
  like_at f left piece free status.Begun other is (inl same) = still (record { same = refl; free = free; stands = inl (same ∙ sym is) }) refl refl
  like_at f left piece free status.Begun other is (inr c) = (let x : status.Begun ≡ status.Closed = c.0 in cc)
  like_at f left piece free status.Closed other is (inl same) = still (record { same = refl; free = free; stands = inl (same ∙ sym is) }) refl refl
  like_at f left piece free status.Closed other is (inr c) = still (closed_like f left free (is ∙ c.1)) refl refl

  likewise : (e f : EndState M) (piece : List ℕ) → Like e f → Alike (takes turn e piece) f (takes turn f piece)
  unfolding takes
  likewise e f piece h =
      subst (λ (x : EndState M). Alike (takes_at turn x piece x.status) f (takes_at turn f piece f.status)) (sym h.same) (like_at f e.left piece h.free e.status f.status refl h.stands)

-- ---- two worlds

-- a world with other ends
abbrev with_ends : World → ServerEndState → ClientEndState → World
with_ends u a c = record u { server = a; client = c }

record Likewise (w u : World) : Type 0 where
  server : Like w.server u.server
  client : Like w.client u.client
  rest : w ≡ with_ends u w.server w.client

-- some events take the other world there
record Follows (w u : World) : Type 0 where
  events : List Event
  there : Likewise w (run events u)

sent_none : (wire : Wire) (bytes : List ℕ) → bytes ≡ [] → sending wire bytes ≡ wire
sent_none wire bytes nil = ap (λ (x : List ℕ). record { sent = x; took = wire.took }) (ap (λ (b : List ℕ). wire.sent ++ b) nil ∙ append-nil wire.sent)

took_none : (wire : Wire) (n : ℕ) → n ≡ 0 → taking wire n ≡ wire
took_none wire n nil = (let e : wire.took + n ≡ wire.took = omega arith in ap (λ (x : ℕ). record { sent = wire.sent; took = x }) e)

module _ (u : World) (a : ServerEndState) (c : ClientEndState) (ha : Like a u.server) (hc : Like c u.client) where
  abbrev w : World
  w = with_ends u a c

  stays : Follows w u
  stays = record { events = []; there = record { server = ha; client = hc; rest = refl } }

  server_did_so : (o p : EndOutcome ServerEndState) → Alike o u.server p → (e : Event) → happens u e ≡ server_did u p → Follows (server_did w o) u
  server_did_so o p (both after taken send) e is =
      record { events = e ∷ []; there = rw is (record { server = after; client = hc; rest = rw (taken, send) refl }) }
  server_did_so o p (still after taken send) e is = record {
    events = [];
    there = record {
      server = after;
      client = hc;
      rest = ap (λ (x : Wire). record w { server = o.after; to_server = x; to_client = sending u.to_client o.send }) (took_none u.to_server o.taken taken)
          ∙ ap (λ (x : Wire). record w { server = o.after; to_client = x }) (sent_none u.to_client o.send send);
    };
  }

  client_did_so : (o p : EndOutcome ClientEndState) → Alike o u.client p → (e : Event) → happens u e ≡ client_did u p → Follows (client_did w o) u
  client_did_so o p (both after taken send) e is =
      record { events = e ∷ []; there = rw is (record { server = ha; client = after; rest = rw (taken, send) refl }) }
  client_did_so o p (still after taken send) e is = record {
    events = [];
    there = record {
      server = ha;
      client = after;
      rest = ap (λ (x : Wire). record w { client = o.after; to_client = x; to_server = sending u.to_server o.send; client_said = u.client_said ++ o.send }) (took_none u.to_client o.taken taken)
          ∙ ap (λ (x : Wire). record w { client = o.after; to_server = x; client_said = u.client_said ++ o.send }) (sent_none u.to_server o.send send)
          ∙ ap (λ (x : List ℕ). record w { client = o.after; client_said = x }) (ap (λ (b : List ℕ). u.client_said ++ b) send ∙ append-nil u.client_said);
    };
  }

  same_start : c.started ≡ u.client.started
  same_start = ap (λ (x : ClientEndState). x.started) hc.same

  starts_like : Alike (client_starts c) u.client (client_starts u.client)
  unfolding client_starts
  starts_like =
      subst (λ (x : ClientEndState). Alike (client_starts x) u.client (client_starts u.client)) (sym hc.same) (both (record { same = refl; free = hc.free; stands = inl refl }) refl refl)

  at_start : (started : Bool) → u.client.started ≡ started → Follows (start_once w started) u
  at_start true is = stays
  at_start false is = client_did_so (client_starts c) (client_starts u.client) starts_like Start (ap (start_once u) is)

  at_client : (n : ℕ) (started : Bool) → u.client.started ≡ started → Follows (hand_client w n started) u
  at_client n true is =
      let piece = take n (untaken u.to_client) in
      client_did_so (client_takes c piece) (client_takes u.client piece) (likewise client_turn c u.client piece hc) (To_client n) (ap (hand_client u n) is)
  at_client n false is = stays

  server_wrote : (bytes : List ℕ) (st : Status) → Stands st u.server.status → Follows (server_writes w bytes st) u
  server_wrote bytes status.Talking s = stays
  server_wrote bytes status.Closed s = stays
  server_wrote bytes status.Begun (inl same) = record {
    events = Server_writes bytes ∷ [];
    there = rw (ap (server_writes u bytes) (sym same)) (record { server = ha; client = hc; rest = refl });
  }
  server_wrote bytes status.Begun (inr x) = (let g : status.Begun ≡ status.Closed = x.0 in cc)

  client_wrote : (bytes : List ℕ) (st : Status) → Stands st u.client.status → Follows (client_writes w bytes st) u
  client_wrote bytes status.Talking s = stays
  client_wrote bytes status.Closed s = stays
  client_wrote bytes status.Begun (inl same) = record {
    events = Client_writes bytes ∷ [];
    there = rw (ap (client_writes u bytes) (sym same)) (record { server = ha; client = hc; rest = refl });
  }
  client_wrote bytes status.Begun (inr x) = (let g : status.Begun ≡ status.Closed = x.0 in cc)

  follows : (e : Event) → Follows (happens w e) u
  follows Start = subst (λ (b : Bool). Follows (start_once w b) u) (sym same_start) (at_start u.client.started refl)
  follows (To_server n) =
      let piece = take n (untaken u.to_server) in
      server_did_so (server_takes a piece) (server_takes u.server piece) (likewise server_turn a u.server piece ha) (To_server n) refl
  follows (To_client n) = subst (λ (b : Bool). Follows (hand_client w n b) u) (sym same_start) (at_client n u.client.started refl)
  follows (Server_writes bytes) = server_wrote bytes a.status ha.stands
  follows (Client_writes bytes) = client_wrote bytes c.status hc.stands

run_more : (es more : List Event) (u : World) → run more (run es u) ≡ run (es ++ more) u
run_more [] more u = refl
run_more (e ∷ es) more u = run_more es more (happens u e)

follow_all : (es : List Event) (w u : World) → Likewise w u → Follows (run es w) u
follow_all [] w u h = record { events = []; there = h }
follow_all (e ∷ es) w u h =
    let one = subst (λ (x : World). Follows (happens x e) u) (sym h.rest) (follows u w.server w.client h.server h.client e) in
    let all = follow_all es (happens w e) (run one.events u) one.there in
    record { events = one.events ++ all.events; there = subst (λ (x : World). Likewise (run es (happens w e)) x) (run_more one.events all.events u) all.there }

-- ---- what is said of both

begun_too : {M : Type 0} (e f : EndState M) → Like e f → e.status ≡ status.Begun → f.status ≡ status.Begun
begun_too e f h is = by_stand h.stands
  where
    by_stand : Stands e.status f.status → f.status ≡ status.Begun
    by_stand (inl same) = sym same ∙ is
    by_stand (inr c) = (let x : status.Closed ≡ status.Begun = sym c.0 ∙ is in cc)

begun_back : {M : Type 0} (e f : EndState M) → Like e f → f.status ≡ status.Begun → e.status ≡ status.Begun
begun_back e f h is = by_stand h.stands
  where
    by_stand : Stands e.status f.status → e.status ≡ status.Begun
    by_stand (inl same) = same ∙ is
    by_stand (inr c) = (let x : status.Talking ≡ status.Begun = sym c.1 ∙ is in cc)

said_of_both : (s : ServerMachine) (made : ClientMachine) (w u : World) → Likewise w u → Handshake s made u → Handshake s made w
said_of_both s made w u h k =
    let server : w.server.machine ≡ u.server.machine = ap (λ (x : ServerEndState). x.machine) h.server.same in
    let client : w.client.machine ≡ u.client.machine = ap (λ (x : ClientEndState). x.machine) h.client.same in
    let begun = begun_too w.client u.client h.client in
    let served = begun_too w.server u.server h.server in
    record {
      client_began = λ is. begun_back w.client u.client h.client (k.client_began (served is));
      same_guid = λ is. ap (λ (x : ClientMachine). x.guid) client ∙ k.same_guid (begun is);
      server_stands = λ is. rw server (k.server_stands (begun is));
      same_agreed = λ is. ap (λ (x : ClientMachine). x.agreed) client ∙ k.same_agreed (begun is) ∙ sym (ap (λ (x : ServerMachine). x.agreed) server);
      agreed = λ is. ap (λ (x : ServerMachine). x.agreed) server ∙ k.agreed (begun is);
      to_server = λ is. ap (λ (x : World). untaken x.to_server) h.rest ∙ k.to_server (served is) ∙ sym (ap (λ (x : World). x.client_wrote) h.rest);
      to_client = λ is. ap (λ (x : World). untaken x.to_client) h.rest ∙ k.to_client (begun is) ∙ sym (ap (λ (x : World). x.server_wrote) h.rest);
      order = ap (λ (x : World). x.to_server.sent) h.rest ∙ k.order ∙ sym (ap (λ (x : World). x.client_said ++ x.client_wrote) h.rest);
      lines = rw h.rest k.lines;
    }

pub bounded_handshake : (s : ServerMachine) (made : ClientMachine) (a c : Option Bounds) (es : List Event) → IsServer s → AllByRecursion IsMechanism made.left → Handshake s made (run es (at_first_within a c s made))
bounded_handshake s made a c es hs ha =
    let u = at_first s made in
    let start : Likewise (at_first_within a c s made) u = record {
      server = record { same = refl; free = refl; stands = inl refl };
      client = record { same = refl; free = refl; stands = inl refl };
      rest = refl;
    } in
    let f = follow_all es (at_first_within a c s made) u start in
    said_of_both s made (run es (at_first_within a c s made)) (run f.events u) f.there (handshake s made f.events hs ha)
