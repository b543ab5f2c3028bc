-- A server that has begun sent OK as its last line other than ERROR, whoever its peer is.
use Rattle.std.proofs.Common.{◌≡◌, inl, inr, ℕ, ◌+◌, ◌-◌, ◌||◌, Bool, true, false, cond, List, [], ◌∷◌, ◌++◌, Option, length, take, drop, refl, sym, ◌∙◌, ap, subst, append_assoc}
use Rattle.std.proofs.lemmas.List.{append-nil}
use Rattle.dbus_auth.specs.Bounded.{server_within}
use Rattle.dbus_auth.specs.World.{line_sent, run_server, IsAfterOk, is_agree, LastIsOk}
use Rattle.std.specs.Prelude.{codes}
use Rattle.std.specs.List.{AllByRecursion, list_any}
use Rattle.std.proofs.lemmas.List.Folds.{list_any-append}
use Rattle.dbus_auth_lines.specs.ClientCommands.{ClientCommand}
use Rattle.dbus_auth_lines.specs.ClientCommands as client
use Rattle.dbus_auth_lines.specs.ServerCommands as server
use Rattle.dbus_auth_lines.specs.Lines.{server_line, ended, client_meaning}
use Rattle.dbus_auth_lines.specs.Cut.{Cut, Ends, Bad, More, cut}
use Rattle.dbus_auth.specs.Machines.{Begins, Disconnects, ServerMachine, ServerStep, server_step, server_step_at, rejects, accepts, replies, complains, disconnects, mechanisms, Sends}
use Rattle.dbus_auth.specs.Ends.{ServerEndState, after_turn, cuts, server_turn, server_takes}
use Rattle.dbus_auth.proofs.Stages.{answers_as, server_answers, takes_by}
use Rattle.dbus_auth.specs.declared.bounds.Bounds.{Bounds}
use Rattle.dbus_auth.specs.declared.end_step.Status.TheVariants as status
use Rattle.dbus_auth.specs.declared.states.ServerState.{ServerState}
use Rattle.dbus_auth.specs.declared.states.ServerState.TheVariants as at

-- past OK, so that BEGIN begins or began
abbrev IsPastOk : ServerState → Type 0
IsPastOk at.WaitingForAuth = ⊥
IsPastOk at.WaitingForData = ⊥
IsPastOk at.WaitingForBegin = Unit {0}
IsPastOk at.Begun = Unit {0}
IsPastOk at.Closed = ⊥

-- the kinds of turns
data Kind (s : ServerMachine) (state : ServerState) (step : ServerStep) : Type 0 where
  gives_ok : step ≡ accepts s → Kind s state step
  gives_error : step ≡ complains s → Kind s state step
  agrees : step ≡ record { action = Sends server.Agree; next = record s { state = at.WaitingForBegin; agreed = true } } → IsPastOk state → s.descriptors ≡ true → Kind s state step
  goes_back : (line : _) (next : ServerState) → step ≡ replies s line next → (IsPastOk next → ⊥) → Kind s state step
  begins : step ≡ record { action = Begins; next = record s { state = at.Begun } } → IsPastOk state → Kind s state step
  gives_up : step ≡ disconnects s → Kind s state step
  is_over : step ≡ record { action = Disconnects; next = s } → Kind s state step

is_reject : (s : ServerMachine) (state : ServerState) → Kind s state (rejects s)
is_reject s state = goes_back (server.Rejected (mechanisms s)) at.WaitingForAuth refl (λ x. x)

choose : (s : ServerMachine) (state : ServerState) (b : Bool) (x y : ServerStep) → Kind s state x → Kind s state y → Kind s state (cond b x y)
choose s state true x y h k = h
choose s state false x y h k = k

on_ask : (s : ServerMachine) (d : Bool) → s.descriptors ≡ d → Kind s at.WaitingForBegin (cond d (record { action = Sends server.Agree; next = record s { state = at.WaitingForBegin; agreed = true } }) (complains s))
on_ask s true e = agrees refl tt e
on_ask s false e = gives_error refl

kind_at : (s : ServerMachine) (state : ServerState) (line : ClientCommand) → Kind s state (server_step_at s state line)
kind_at s at.WaitingForAuth (client.AuthBy mech response) =
    choose s at.WaitingForAuth _ _ _ (goes_back (server.DataOf []) at.WaitingForData refl (λ x. x))
    (choose s at.WaitingForAuth _ _ _ (gives_ok refl) (choose s at.WaitingForAuth _ _ _ (gives_ok refl) (is_reject s at.WaitingForAuth)))
kind_at s at.WaitingForAuth client.Auth = is_reject s at.WaitingForAuth
kind_at s at.WaitingForAuth (client.Error text) = is_reject s at.WaitingForAuth
kind_at s at.WaitingForAuth client.Begin = gives_up refl
kind_at s at.WaitingForAuth _ = gives_error refl
kind_at s at.WaitingForData (client.DataOf bytes) = choose s at.WaitingForData _ _ _ (gives_ok refl) (is_reject s at.WaitingForData)
kind_at s at.WaitingForData client.Cancel = is_reject s at.WaitingForData
kind_at s at.WaitingForData (client.Error text) = is_reject s at.WaitingForData
kind_at s at.WaitingForData client.Begin = gives_up refl
kind_at s at.WaitingForData _ = gives_error refl
kind_at s at.WaitingForBegin client.Begin = begins refl tt
kind_at s at.WaitingForBegin client.Cancel = is_reject s at.WaitingForBegin
kind_at s at.WaitingForBegin (client.Error text) = is_reject s at.WaitingForBegin
kind_at s at.WaitingForBegin client.Negotiate = on_ask s s.descriptors refl
kind_at s at.WaitingForBegin _ = gives_error refl
kind_at s at.Begun line = is_over refl
kind_at s at.Closed line = is_over refl

-- first: the server as it was made
record Good (first : ServerMachine) (e : ServerEndState) (said : List (List ℕ)) : Type 0 where
  guid_is : e.machine.guid ≡ first.guid
  descriptors_is : e.machine.descriptors ≡ first.descriptors
  past_ok : IsPastOk e.machine.state → LastIsOk first e.machine.agreed said
  begun : e.status ≡ status.Begun → e.machine.state ≡ at.Begun

LastIsOk-same : (first : ServerMachine) (agreed : Bool) (said : List (List ℕ)) → LastIsOk first agreed said → LastIsOk first agreed (said ++ [])
LastIsOk-same first agreed said h = record { front = h.front; after = h.after; is = append-nil said ∙ h.is; only = h.only; agrees = h.agrees }

only_more : (descriptors : Bool) (after : List (List ℕ)) (line : List ℕ) → AllByRecursion (IsAfterOk descriptors) after → IsAfterOk descriptors line → AllByRecursion (IsAfterOk descriptors) (after ++ line ∷ [])
only_more descriptors [] line h k = (k, tt)
only_more descriptors (x ∷ xs) line h k = (h.0, only_more descriptors xs line h.1 k)

-- a line after OK
LastIsOk-more : (first : ServerMachine) (agreed now : Bool) (said : List (List ℕ)) (line : List ℕ) → LastIsOk first agreed said → IsAfterOk first.descriptors line → now ≡ (agreed || list_any is_agree (line ∷ [])) → LastIsOk first now (said ++ line ∷ [])
LastIsOk-more first agreed now said line h k is = record {
  front = h.front;
  after = h.after ++ line ∷ [];
  is = ap (λ (x : List (List ℕ)). x ++ line ∷ []) h.is ∙ append_assoc h.front (ended (server_line (server.Accepted first.guid)) ∷ h.after) (line ∷ []);
  only = only_more first.descriptors h.after line h.only k;
  agrees = is ∙ ap (λ (x : Bool). x || list_any is_agree (line ∷ [])) h.agrees ∙ sym (list_any-append is_agree h.after (line ∷ []));
}

error_after : (descriptors : Bool) → IsAfterOk descriptors (ended (codes "ERROR"))
error_after true = inl refl
error_after false = refl

or_false : (b : Bool) → b ≡ (b || false)
or_false true = refl
or_false false = refl

or_true : (b : Bool) → true ≡ (b || true)
or_true true = refl
or_true false = refl

no_begun : {A : Type 0} → status.Talking ≡ status.Begun → A
no_begun h = absurd (let x : status.Talking ≡ status.Begun = h in cc)

closed_no_begun : {A : Type 0} → status.Closed ≡ status.Begun → A
closed_no_begun h = absurd (let x : status.Closed ≡ status.Begun = h in cc)

answer_keeps : (first : ServerMachine) (e : ServerEndState) (said : List (List ℕ)) (step : ServerStep) → Good first e said → Kind e.machine e.machine.state step
    → Good first (after_turn (server_answers step)) (said ++ line_sent (server_answers step).send)
answer_keeps first e said step g (gives_ok is) = rw is (record {
  guid_is = g.guid_is;
  descriptors_is = g.descriptors_is;
  past_ok = λ _. record { front = said; after = []; is = ap (λ (x : List ℕ). said ++ ended (server_line (server.Accepted x)) ∷ []) g.guid_is; only = tt; agrees = refl };
  begun = no_begun;
})
answer_keeps first e said step g (gives_error is) = rw is (record {
  guid_is = g.guid_is;
  descriptors_is = g.descriptors_is;
  past_ok = λ h. LastIsOk-more first e.machine.agreed e.machine.agreed said (ended (codes "ERROR")) (g.past_ok h) (error_after first.descriptors) (or_false e.machine.agreed);
  begun = no_begun;
})
answer_keeps first e said step g (agrees is past d) = rw is (record {
  guid_is = g.guid_is;
  descriptors_is = g.descriptors_is;
  past_ok = λ _.
      LastIsOk-more first e.machine.agreed true said (ended (codes "AGREE_UNIX_FD")) (g.past_ok past)
      (subst (λ (x : Bool). IsAfterOk x (ended (codes "AGREE_UNIX_FD"))) (sym d ∙ g.descriptors_is) (inr refl)) (or_true e.machine.agreed);
  begun = no_begun;
})
answer_keeps first e said step g (goes_back line next is not_past) = rw is (record {
  guid_is = g.guid_is;
  descriptors_is = g.descriptors_is;
  past_ok = λ h. absurd (not_past h);
  begun = no_begun;
})
answer_keeps first e said step g (begins is past) = rw is (record {
  guid_is = g.guid_is;
  descriptors_is = g.descriptors_is;
  past_ok = λ _. LastIsOk-same first e.machine.agreed said (g.past_ok past);
  begun = λ _. refl;
})
answer_keeps first e said step g (gives_up is) = rw is (record {
  guid_is = g.guid_is;
  descriptors_is = g.descriptors_is;
  past_ok = absurd;
  begun = closed_no_begun;
})
answer_keeps first e said step g (is_over is) = rw is (record {
  guid_is = g.guid_is;
  descriptors_is = g.descriptors_is;
  past_ok = λ h. LastIsOk-same first e.machine.agreed said (g.past_ok h);
  begun = closed_no_begun;
})

-- the machine and Begun are as they were, and nothing is sent
quiet_keeps : (first : ServerMachine) (e after : ServerEndState) (said : List (List ℕ)) → Good first e said → after.machine ≡ e.machine → (after.status ≡ status.Begun → e.status ≡ status.Begun) → Good first after (said ++ [])
quiet_keeps first e after said g is same = record {
  guid_is = ap (λ (x : ServerMachine). x.guid) is ∙ g.guid_is;
  descriptors_is = ap (λ (x : ServerMachine). x.descriptors) is ∙ g.descriptors_is;
  past_ok = λ h.
      subst (λ (x : ServerMachine). LastIsOk first x.agreed (said ++ [])) (sym is)
      (LastIsOk-same first e.machine.agreed said (g.past_ok (subst (λ (x : ServerMachine). IsPastOk x.state) is h)));
  begun = λ h. ap (λ (x : ServerMachine). x.state) is ∙ g.begun (same h);
}

-- nor does it matter what may still be sent
left_keeps : (first : ServerMachine) (e : ServerEndState) (said : List (List ℕ)) (left : Option Bounds) → Good first e said → Good first (record e { left = left }) said
left_keeps first e said left g = record { guid_is = g.guid_is; descriptors_is = g.descriptors_is; past_ok = g.past_ok; begun = g.begun }

shut_keeps : (first : ServerMachine) (e : ServerEndState) (said : List (List ℕ)) → Good first e said → Good first (record e { status = status.Closed }) (said ++ [])
shut_keeps first e said g = quiet_keeps first e (record e { status = status.Closed }) said g refl closed_no_begun

step_kind : (s : ServerMachine) (line : ClientCommand) → Kind s s.state (server_step s line)
unfolding server_step
step_kind s line = kind_at s s.state line

cuts_keep : (first : ServerMachine) (e : ServerEndState) (said : List (List ℕ)) (skipped : ℕ) (bs : List ℕ) (c : Cut) → Good first e said
    → Good first (cuts server_turn e skipped bs c).after (said ++ line_sent (cuts server_turn e skipped bs c).send)
cuts_keep first e said skipped bs (Ends size) g =
    let text = take (size - 2) (e.kept ++ bs) in
    let step = server_step e.machine (client_meaning text) in
    answers_as server_turn (λ o. Good first o.after (said ++ line_sent o.send)) e (skipped + (size - length e.kept)) (server_turn e.machine text) (shut_keeps first e said g)
    (λ left. left_keeps first (after_turn (server_answers step)) (said ++ line_sent (server_answers step).send) left
    (answer_keeps first e said step g (step_kind e.machine (client_meaning text))))
cuts_keep first e said skipped bs (Bad f) g = shut_keeps first e said g
cuts_keep first e said skipped bs More g = quiet_keeps first e (record e { started = true; kept = e.kept ++ bs }) said g refl (λ h. h)

takes_keep : (first : ServerMachine) (e : ServerEndState) (said : List (List ℕ)) (p : List ℕ) → Good first e said → Good first (server_takes e p).after (said ++ line_sent (server_takes e p).send)
takes_keep first e said p g =
    takes_by server_turn (λ o. Good first o.after (said ++ line_sent o.send)) e (quiet_keeps first e e said g refl (λ h. h))
    (shut_keeps first e said g) (λ skipped q. cuts_keep first e said skipped q (cut (e.kept ++ q)) g) p

run_keeps : (first : ServerMachine) (ns : List ℕ) (e : ServerEndState) (bytes : List ℕ) (said : List (List ℕ)) → Good first e said → Good first (run_server e bytes ns).after (said ++ (run_server e bytes ns).said)
run_keeps first [] e bytes said g = quiet_keeps first e e said g refl (λ h. h)
run_keeps first (n ∷ ns) e bytes said g =
    let outcome = server_takes e (take n bytes) in
    let rest = run_server outcome.after (drop outcome.taken bytes) ns in
    rw (← append_assoc said (line_sent outcome.send) rest.said) (run_keeps first ns outcome.after (drop outcome.taken bytes) (said ++ line_sent outcome.send) (takes_keep first e said (take n bytes) g))

pub last_ok : (left : Option Bounds) (s : ServerMachine) (bytes ns : List ℕ) → (run_server (server_within left s) bytes ns).after.status ≡ status.Begun → LastIsOk s (run_server (server_within left s) bytes ns).after.machine.agreed (run_server (server_within left s) bytes ns).said
last_ok left s bytes ns h =
    let g = run_keeps s ns (server_within left s) bytes [] (record { guid_is = refl; descriptors_is = refl; past_ok = absurd; begun = no_begun }) in
    g.past_ok (subst IsPastOk (sym (g.begun h)) tt)
