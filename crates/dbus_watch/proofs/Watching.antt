-- What a watch knows after the lines of both sides, and where servers begin messages then.
use Rattle.std.proofs.Common.{◌≡◌, ◌≢◌, ℕ, ◌+◌, ◌-◌, ◌==◌, Bool, true, false, List, [], ◌∷◌, length, take, refl, sym, ◌∙◌, ap, subst, arith, if◌then◌else◌}
use Rattle.std.specs.Prelude.{Ok, Err}
use Rattle.std.specs.List.{AllByRecursion}
use Rattle.std.proofs.lemmas.Bool.{eqb-true, eqb-false}
use Rattle.std.proofs.lemmas.List.{take_all}
use Rattle.dbus_auth_lines.specs.ClientCommands.{ClientCommand}
use Rattle.dbus_auth_lines.specs.ClientCommands as client
use Rattle.dbus_auth_lines.specs.ServerCommands.{ServerCommand}
use Rattle.dbus_auth_lines.specs.Lines.{client_meaning, server_meaning}
use Rattle.dbus_auth_lines.specs.WrittenLines.{IsExactClientLine}
use Rattle.dbus_auth.specs.declared.states.ServerState.{ServerState}
use Rattle.dbus_auth.specs.declared.states.ServerState.TheVariants as at
use Rattle.dbus_watch.specs.Watches.{AnswersAll, BeginsAtBegin, FromClient, FromServer, IsReader, Passed, PassesAll, Reader, Seen, WatchState, answered, answers, answers_next, asked_after, asks, at_first, begins, begins_at, client_lines, if_talking, passed_to_client, passed_to_server, passes, refuses, says, server_lines, settles, told}
use Rattle.dbus_watch.specs.Watches as reading
use Rattle.dbus_watch.specs.declared.watch.Passage.{Passage}
use Rattle.dbus_watch.specs.declared.watch.Passage.TheVariants as passage
use Rattle.dbus_watch.specs.declared.watch.WatchFault.{WatchFault}
use Rattle.dbus_watch.specs.declared.watch.WatchFault.TheVariants as fault

-- ---- a line that passes

fails : {A : Type 0} (e : WatchFault) (p : Passage) → Err e ≡ Ok p → A
fails e p h = cc h

no_pass : {A : Type 0} (w next : WatchState) (e : WatchFault) → record { answer = Err e; after = w } ≡ passes next → A
no_pass w next e h = fails e passage.Passes (ap (λ (p : Passed). p.answer) h)

is_next : (w next : WatchState) → passes w ≡ passes next → w ≡ next
is_next w next h = ap (λ (p : Passed). p.after) h

talking : (w next : WatchState) (state : ServerState) (p : Passed) → if_talking w state p ≡ passes next → p ≡ passes next
talking w next at.WaitingForAuth p h = h
talking w next at.WaitingForData p h = h
talking w next at.WaitingForBegin p h = h
talking w next at.Begun p h = no_pass w next fault.Over h
talking w next at.Closed p h = no_pass w next fault.Over h

-- one more line is to be answered
abbrev OneMore : WatchState → WatchState → Type 0
OneMore w next = (w.server ≡ next.server) × (w.unanswered + 1 ≡ next.unanswered)

asked : (w next : WatchState) (descriptors : Bool) → asks w descriptors ≡ passes next → OneMore w next
asked w next descriptors h = by_test (w.unanswered == 4294967295) h
  where
    more : WatchState
    more = record w { unanswered = w.unanswered + 1; asked = asked_after w descriptors }

    by_test : (t : Bool) → (if t then refuses w fault.TooMany else passes more) ≡ passes next → OneMore w next
    by_test true g = no_pass (record w { server = at.Closed }) next fault.TooMany g
    by_test false g = let e = is_next more next g in (ap (λ (v : WatchState). v.server) e, ap (λ (v : WatchState). v.unanswered) e)

no_begin_at : {A : Type 0} (w next : WatchState) (state : ServerState) → begins_at w state ≡ passes next → A
no_begin_at w next at.WaitingForBegin h = (let x : Ok passage.Begins ≡ Ok passage.Passes = ap (λ (p : Passed). p.answer) h in cc)
no_begin_at w next at.WaitingForAuth h = no_pass (record w { server = at.Closed }) next fault.NotAccepted h
no_begin_at w next at.WaitingForData h = no_pass (record w { server = at.Closed }) next fault.NotAccepted h
no_begin_at w next at.Begun h = no_pass (record w { server = at.Closed }) next fault.NotAccepted h
no_begin_at w next at.Closed h = no_pass (record w { server = at.Closed }) next fault.NotAccepted h

no_begin : {A : Type 0} (w next : WatchState) → begins w ≡ passes next → A
no_begin {A} w next h = by_test (w.unanswered == 0) h
  where
    by_test : (t : Bool) → (if t then begins_at w w.server else record { answer = Ok passage.Waits; after = w }) ≡ passes next → A
    by_test true g = no_begin_at w next w.server g
    by_test false g = (let x : Ok passage.Waits ≡ Ok passage.Passes = ap (λ (p : Passed). p.answer) g in cc)

said_is : (w next : WatchState) (c : ClientCommand) → says w c ≡ passes next → OneMore w next
said_is w next client.Auth h = asked w next false h
said_is w next (client.AuthBy mech response) h = asked w next false h
said_is w next client.Cancel h = asked w next false h
said_is w next client.Begin h = no_begin w next h
said_is w next (client.DataOf bytes) h = asked w next false h
said_is w next (client.Error text) h = asked w next false h
said_is w next client.Negotiate h = asked w next true h
said_is w next client.Other h = asked w next false h

pub client_passed : (w next : WatchState) (c : ClientCommand) → passed_to_server w c ≡ passes next → OneMore w next
client_passed w next c h = said_is w next c (talking w next w.server (says w c) h)

server_passed : (w next : WatchState) (c : ServerCommand) → passed_to_client w c ≡ passes next → (next.server ≡ answered c w.server) × (next.unanswered + 1 ≡ w.unanswered)
server_passed w next c h = by_test (w.unanswered == 0) (eqb-false w.unanswered 0) (talking w next w.server (answers w c) h)
  where
    after : WatchState
    after = record { server = answered c w.server; unanswered = w.unanswered - 1; asked = w.asked - 1 }

    settled : (t : Bool) → answers_next w c t ≡ passes next → after ≡ next
    settled true g = is_next after next g
    settled false g = no_pass (record w { server = at.Closed }) next fault.NotSettled g

    by_test : (t : Bool) → (t ≡ false → w.unanswered ≡ 0 → ⊥) → (if t then refuses w fault.Unasked else answers_next w c (if w.asked == 1 then settles c else true)) ≡ passes next
        → (next.server ≡ answered c w.server) × (next.unanswered + 1 ≡ w.unanswered)
    by_test true some g = no_pass (record w { server = at.Closed }) next fault.Unasked g
    by_test false some g =
        let e : after ≡ next = settled (if w.asked == 1 then settles c else true) g in
        let left : w.unanswered - 1 ≡ next.unanswered = ap (λ (v : WatchState). v.unanswered) e in
        let more = some refl in
        (sym (ap (λ (v : WatchState). v.server) e), grind (arith))

-- ---- all lines of both sides

record Knows (w last : WatchState) (seen : List Seen) : Type 0 where
  state : last.server ≡ told (server_lines seen) w.server
  count : last.unanswered + length (server_lines seen) ≡ w.unanswered + length (client_lines seen)
  exact : AllByRecursion IsExactClientLine (client_lines seen)

knows : (w last : WatchState) (seen : List Seen) → PassesAll w seen last → Knows w last seen
knows w last [] h = record { state = ap (λ (v : WatchState). v.server) (sym h); count = ap (λ (v : WatchState). v.unanswered + 0) (sym h); exact = tt }
knows w last (FromClient line ∷ more) h =
    let next = h.0 in
    let e = client_passed w next (client_meaning line) h.1.1 in
    let ih = knows next last more h.1.2 in
    record { state = ih.state ∙ ap (told (server_lines more)) (sym e.0); count = omega (arith, ih.count, e.1); exact = (h.1.0, ih.exact) }
knows w last (FromServer line ∷ more) h =
    let next = h.0 in
    let e = server_passed w next (server_meaning line) h.1.1 in
    let ih = knows next last more h.1.2 in
    record { state = ih.state ∙ ap (told (server_lines more)) e.0; count = omega (arith, ih.count, e.1); exact = ih.exact }

-- ---- BEGIN

fails_answer : {A : Type 0} (e : WatchFault) → Err e ≡ Ok passage.Begins → A
fails_answer e h = cc h

begin_at : (w : WatchState) (state : ServerState) (n : ℕ) → (if_talking w state (if n == 0 then begins_at w state else record { answer = Ok passage.Waits; after = w })).answer ≡ Ok passage.Begins
    → (n ≡ 0) × (state ≡ at.WaitingForBegin)
begin_at w at.Begun n h = fails_answer fault.Over h
begin_at w at.Closed n h = fails_answer fault.Over h
begin_at w at.WaitingForAuth n h = by_test (n == 0) h
  where
    by_test : (t : Bool) → (if t then begins_at w at.WaitingForAuth else record { answer = Ok passage.Waits; after = w }).answer ≡ Ok passage.Begins → (n ≡ 0) × (at.WaitingForAuth ≡ at.WaitingForBegin)
    by_test true g = fails_answer fault.NotAccepted g
    by_test false g = cc g
begin_at w at.WaitingForData n h = by_test (n == 0) h
  where
    by_test : (t : Bool) → (if t then begins_at w at.WaitingForData else record { answer = Ok passage.Waits; after = w }).answer ≡ Ok passage.Begins → (n ≡ 0) × (at.WaitingForData ≡ at.WaitingForBegin)
    by_test true g = fails_answer fault.NotAccepted g
    by_test false g = cc g
begin_at w at.WaitingForBegin n h = (by_test (n == 0) (eqb-true n 0) h, refl)
  where
    by_test : (t : Bool) → (t ≡ true → n ≡ 0) → (if t then begins_at w at.WaitingForBegin else record { answer = Ok passage.Waits; after = w }).answer ≡ Ok passage.Begins → n ≡ 0
    by_test true none g = none refl
    by_test false none g = cc g

pub begins_there : (reads : Reader) (seen : List Seen) (last : WatchState) → IsReader reads → PassesAll at_first seen last
    → AnswersAll reads [] (take (length (server_lines seen)) (client_lines seen)) (server_lines seen) → (passed_to_server last client.Begin).answer ≡ Ok passage.Begins → BeginsAtBegin reads (client_lines seen) (server_lines seen)
begins_there reads seen last reader passed said begun =
    let k = knows at_first last seen passed in
    let b = begin_at last last.server last.unanswered begun in
    let all : take (length (server_lines seen)) (client_lines seen) ≡ client_lines seen = take_all (length (server_lines seen)) (client_lines seen) (omega (arith, k.count, b.0)) in
    let every = subst (λ (lines : List (List ℕ)). AnswersAll reads [] lines (server_lines seen)) all said in
    record { before = every; there = reader.begin (client_lines seen) (server_lines seen) k.exact every (sym k.state ∙ b.1) }

pub begins_nowhere_else : (reads : Reader) (before : List (List ℕ)) (line : List ℕ) (w next : WatchState) → IsReader reads → IsExactClientLine line → passed_to_server w (client_meaning line) ≡ passes next → reads before line ≢ reading.Begins
begins_nowhere_else reads before line w next reader exact passed begun =
    let begin = reader.only_begin before line exact begun in
    no_begin w next (talking w next w.server (begins w) (subst (λ (c : ClientCommand). passed_to_server w c ≡ passes next) begin passed))
