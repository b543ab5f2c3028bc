-- The lines of a handshake are lines, and are read as what was written.
use Rattle.std.proofs.Common.{◌≡◌, ◌⊎◌, inl, inr, ℕ, zero, suc, ◌^◌, ◌<◌, ◌≤◌, ◌&&◌, Bool, true, false, cond, List, [], ◌∷◌, ◌++◌, length, Option, Some, None, if◌then◌else◌, refl, sym, ◌∙◌, arith, lit≤, lit<, length-append}
use Rattle.std.specs.Prelude.{codes, decimal}
use Rattle.std.specs.List.{list_all}
use Rattle.std.specs.Str.Parse.{AllDigits}
use Rattle.std.proofs.lemmas.Str.Parse.{digit_from_value}
use Rattle.std.proofs.lemmas.Fmt.{decimal_is_IsNumeral, length-decimal-le, decimal_nonempty}
use Rattle.std.proofs.lemmas.Bool.{and_parts, false≢true}
use Rattle.hex.specs.Hex.{IsBytes}
use Rattle.dbus_auth_lines.specs.ClientCommands as client
use Rattle.dbus_auth_lines.specs.ServerCommands as server
use Rattle.dbus_auth_lines.specs.Lines.{client_line, server_line, client_meaning, server_meaning, hex_word}
use Rattle.dbus_auth_lines.specs.Cut.{IsLine}
use Rattle.dbus_auth.specs.Machines.{ServerMachine, ClientMechanism, External, Anonymous, IsServer, auth_line, waits_in, server_step, mechanisms, external_words, rejects, accepts, replies, is_user, is_empty, offers_external, ServerStep, IsMechanism}
use Rattle.dbus_auth.specs.declared.states.ServerState.TheVariants as at
use Rattle.dbus_auth.specs.declared.states.ClientState.TheVariants as now
use Rattle.dbus_auth_lines.specs.WrittenLines.{HasClientBytes, is_word, is_client_spelled}
use Rattle.dbus_auth.proofs.Stages.{answer_to_ask}
use Rattle.dbus_auth_lines.proofs.PrintedWords.{length-hex_word}
use Rattle.dbus_auth_lines.proofs.RoundTrips.{client_is_line, server_is_line, client_reads, server_reads}

no_bytes : IsBytes []
no_bytes i = lit< tt

pub data_is_line : IsLine (codes "DATA")
data_is_line = client_is_line (client.DataOf []) no_bytes refl (lit≤ tt)

pub begin_is_line : IsLine (codes "BEGIN")
begin_is_line = client_is_line client.Begin tt refl (lit≤ tt)

digits_are_bytes : (ds : List ℕ) → AllDigits 10 ds → IsBytes ds
digits_are_bytes [] h i = lit< tt
digits_are_bytes (c ∷ cs) h zero = omega (arith, digit_from_value c h.0)
digits_are_bytes (c ∷ cs) h (suc i) = digits_are_bytes cs h.1 i

small : (n : ℕ) → n < 2 ^ 32 → n < 2 ^ 64
small n h = omega arith

auth_bytes : (m : ClientMechanism) → IsMechanism m → HasClientBytes (auth_line m)
auth_bytes (External None) h = no_bytes
auth_bytes (External (Some n)) h = digits_are_bytes (decimal n) (decimal_is_IsNumeral n (small n h)).0.1
auth_bytes (Anonymous trace) h = h.1

auth_spelled : (m : ClientMechanism) → is_client_spelled (auth_line m) ≡ true
auth_spelled (External None) = refl
auth_spelled (External (Some n)) = refl
auth_spelled (Anonymous trace) = refl

auth_short : (m : ClientMechanism) → IsMechanism m → length (client_line (auth_line m)) ≤ 16382
auth_short (External None) h = lit≤ tt
auth_short (External (Some n)) h = omega (arith, length-append (codes "AUTH EXTERNAL") (hex_word (decimal n)), length-hex_word (decimal n), length-decimal-le 20 n (omega arith) (omega arith) (small n h))
auth_short (Anonymous trace) h = omega (arith, length-append (codes "AUTH ANONYMOUS") (hex_word trace), length-hex_word trace, h.0)

pub auth_is_line : (m : ClientMechanism) → IsMechanism m → IsLine (client_line (auth_line m))
auth_is_line m h = client_is_line (auth_line m) (auth_bytes m h) (auth_spelled m) (auth_short m h)

pub auth_is_read : (m : ClientMechanism) → IsMechanism m → client_meaning (client_line (auth_line m)) ≡ auth_line m
auth_is_read m h = client_reads (auth_line m) (auth_bytes m h) (auth_spelled m)

pub data_is_read : client_meaning (codes "DATA") ≡ client.DataOf []
data_is_read = client_reads (client.DataOf []) no_bytes refl

pub begin_is_read : client_meaning (codes "BEGIN") ≡ client.Begin
begin_is_read = client_reads client.Begin tt refl

pub negotiate_is_line : IsLine (codes "NEGOTIATE_UNIX_FD")
negotiate_is_line = client_is_line client.Negotiate tt refl (lit≤ tt)

pub negotiate_is_read : client_meaning (codes "NEGOTIATE_UNIX_FD") ≡ client.Negotiate
negotiate_is_read = client_reads client.Negotiate tt refl

pub answer_is_line : (agrees : Bool) → IsLine (server_line (answer_to_ask agrees))
answer_is_line true = server_is_line server.Agree tt refl (lit≤ tt)
answer_is_line false = server_is_line (server.Error []) tt refl (lit≤ tt)

pub answer_is_read : (agrees : Bool) → server_meaning (server_line (answer_to_ask agrees)) ≡ answer_to_ask agrees
answer_is_read true = server_reads server.Agree tt refl
answer_is_read false = server_reads (server.Error []) tt refl

pub server_data_is_read : server_meaning (codes "DATA") ≡ server.DataOf []
server_data_is_read = server_reads (server.DataOf []) no_bytes refl

-- the mechanisms of a server are words, and a short line
offered : (user : Option ℕ) (anonymous : Bool) → (ws : List (List ℕ)) → ws ≡ external_words user ++ (if anonymous then codes "ANONYMOUS" ∷ [] else []) → (list_all is_word ws ≡ true) × (length (server_line (server.Rejected ws)) ≤ 16382)
offered None true ws e = rw e (refl, lit≤ tt)
offered None false ws e = rw e (refl, lit≤ tt)
offered (Some n) true ws e = rw e (refl, lit≤ tt)
offered (Some n) false ws e = rw e (refl, lit≤ tt)

pub rejected_is_line : (s : ServerMachine) → IsLine (server_line (server.Rejected (mechanisms s)))
rejected_is_line s = let o = offered s.user s.anonymous (mechanisms s) refl in server_is_line (server.Rejected (mechanisms s)) tt o.0 o.1

pub rejected_is_read : (s : ServerMachine) → server_meaning (server_line (server.Rejected (mechanisms s))) ≡ server.Rejected (mechanisms s)
rejected_is_read s = server_reads (server.Rejected (mechanisms s)) tt (offered s.user s.anonymous (mechanisms s) refl).0

pub accepted_is_line : (s : ServerMachine) → IsServer s → IsLine (server_line (server.Accepted s.guid))
accepted_is_line s h = server_is_line (server.Accepted s.guid) (h.guid, h.bytes) refl (omega (arith, length-append (codes "OK") (hex_word s.guid), length-hex_word s.guid, h.guid))

pub accepted_is_read : (s : ServerMachine) → IsServer s → server_meaning (server_line (server.Accepted s.guid)) ≡ server.Accepted s.guid
accepted_is_read s h = server_reads (server.Accepted s.guid) (h.guid, h.bytes) refl

three_ways : {X : Type 0} (p q r : Bool) (d a no_way : X) → (cond p d (cond q a (cond r a no_way)) ≡ no_way) ⊎ ((cond p d (cond q a (cond r a no_way)) ≡ a) ⊎ ((cond p d (cond q a (cond r a no_way)) ≡ d) × (p ≡ true)))
three_ways true q r d a n = inr (inr (refl, refl))
three_ways false true r d a n = inr (inl refl)
three_ways false false true d a n = inr (inl refl)
three_ways false false false d a n = inl refl

empty_is_nil : (bytes : List ℕ) → is_empty bytes ≡ true → length bytes ≡ 0
empty_is_nil [] h = refl
empty_is_nil (b ∷ bs) h = absurd (false≢true h)

decimal_is_some : (n : ℕ) → n < 2 ^ 32 → is_empty (decimal n) ≡ true → ⊥
decimal_is_some n h e = omega (arith, empty_is_nil (decimal n) e, decimal_nonempty n (small n h))

abbrev pub AuthStep : ServerMachine → ClientMechanism → Type 0
AuthStep s m = (server_step (record s { state = at.WaitingForAuth; agreed = false }) (auth_line m) ≡ rejects s)
    ⊎ ((server_step (record s { state = at.WaitingForAuth; agreed = false }) (auth_line m) ≡ accepts s)
    ⊎ ((server_step (record s { state = at.WaitingForAuth; agreed = false }) (auth_line m) ≡ replies s (server.DataOf []) at.WaitingForData) × (waits_in m ≡ now.WaitingForData)))

-- the step is one of three, and asks for data only where the test p holds
by_test : (s : ServerMachine) (m : ClientMechanism) (p : Bool) (step : ServerStep) → step ≡ server_step (record s { state = at.WaitingForAuth; agreed = false }) (auth_line m)
    → (step ≡ rejects s) ⊎ ((step ≡ accepts s) ⊎ ((step ≡ replies s (server.DataOf []) at.WaitingForData) × (p ≡ true))) → (p ≡ true → waits_in m ≡ now.WaitingForData) → AuthStep s m
by_test s m p step is (inl x) w = inl (sym is ∙ x)
by_test s m p step is (inr (inl x)) w = inr (inl (sym is ∙ x))
by_test s m p step is (inr (inr x)) w = inr (inr (sym is ∙ x.0, w x.1))

pub auth_step : (s : ServerMachine) (m : ClientMechanism) → IsMechanism m → AuthStep s m
unfolding server_step
auth_step s (External None) h =
    let p = offers_external s.user && true in
    by_test s (External None) p (server_step (record s { state = at.WaitingForAuth; agreed = false }) (auth_line (External None))) refl
    (three_ways p (is_user s.user []) false (replies s (server.DataOf []) at.WaitingForData) (accepts s) (rejects s)) (λ _. refl)
auth_step s (External (Some n)) h =
    let p = offers_external s.user && is_empty (decimal n) in
    by_test s (External (Some n)) p (server_step (record s { state = at.WaitingForAuth; agreed = false }) (auth_line (External (Some n)))) refl
    (three_ways p (is_user s.user (decimal n)) false (replies s (server.DataOf []) at.WaitingForData) (accepts s) (rejects s)) (λ e. absurd (decimal_is_some n h (and_parts (offers_external s.user) (is_empty (decimal n)) e).1))
auth_step s (Anonymous trace) h =
    by_test s (Anonymous trace) false (server_step (record s { state = at.WaitingForAuth; agreed = false }) (auth_line (Anonymous trace))) refl
    (three_ways false false s.anonymous (replies s (server.DataOf []) at.WaitingForData) (accepts s) (rejects s)) (λ e. absurd (false≢true e))

pub data_step : (s : ServerMachine) → server_step (record s { state = at.WaitingForData; agreed = false }) (client.DataOf []) ≡ accepts s
unfolding server_step
data_step s = refl
