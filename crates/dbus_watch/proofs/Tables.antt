-- What the answers of the specification's server tell, row by row.
use Rattle.std.proofs.Common.{◌≡◌, Bool, true, false, refl, sym, ap, subst, ◌∙◌, [], if◌then◌else◌}
use Rattle.std.specs.Prelude.{◌↔◌, ◌&&◌, ◌||◌, bytes_eq, codes, List, ℕ}
use Rattle.dbus_auth_lines.specs.ClientCommands.{ClientCommand}
use Rattle.dbus_auth_lines.specs.ClientCommands as client
use Rattle.dbus_auth_lines.specs.ServerCommands.{ServerCommand}
use Rattle.dbus_auth_lines.specs.ServerCommands as server
use Rattle.dbus_auth.specs.Machines.{Begins, Disconnects, Sends, ServerMachine, ServerStep, accepts, by_mechanism, complains, is_empty, is_user, mechanisms, negotiates, offers_external, rejects, replies, server_step, server_step_at}
use Rattle.dbus_auth.specs.ServerViews.{IsWaiting}
use Rattle.dbus_auth.specs.declared.states.ServerState.{ServerState}
use Rattle.dbus_auth.specs.declared.states.ServerState.TheVariants as at
use Rattle.dbus_watch.specs.Watches.{answered, settles}

-- what is sent tells the next state, and messages do not begin
record Tells (step : ServerStep) (state : ServerState) : Type 0 where
  answer : (said : ServerCommand) → step.action ≡ Sends said → step.next.state ≡ answered said state
  goes_on : step.action ≡ Begins → ⊥

tells_line : (line : ServerCommand) (next : ServerMachine) (state : ServerState) → next.state ≡ answered line state → Tells (record { action = Sends line; next = next }) state
tells_line line next state h = record {
  answer = λ said e. (let same : line ≡ said = cc in subst (λ l. next.state ≡ answered l state) same h);
  goes_on = λ e. cc e;
}

tells_reply : (s : ServerMachine) (line : ServerCommand) (next state : ServerState) → next ≡ answered line state → Tells (replies s line next) state
tells_reply s line next state h = tells_line line (record s { state = next; agreed = false }) state h

tells_if : (t : Bool) (a b : ServerStep) (state : ServerState) → Tells a state → Tells b state → Tells (if t then a else b) state
tells_if true a b state h k = h
tells_if false a b state h k = k

tells_reject : (s : ServerMachine) (state : ServerState) → Tells (rejects s) state
tells_reject s state = tells_reply s (server.Rejected (mechanisms s)) at.WaitingForAuth state refl

tells_accept : (s : ServerMachine) (state : ServerState) → Tells (accepts s) state
tells_accept s state = tells_reply s (server.Accepted s.guid) at.WaitingForBegin state refl

tells_complaint : (s : ServerMachine) (state : ServerState) → s.state ≡ state → Tells (complains s) state
tells_complaint s state h = tells_line (server.Error []) s state h

tells_agreement : (s : ServerMachine) → s.state ≡ at.WaitingForBegin → Tells (negotiates s) at.WaitingForBegin
tells_agreement s h =
    tells_if s.descriptors _ _ at.WaitingForBegin (tells_line server.Agree (record s { state = at.WaitingForBegin; agreed = true }) at.WaitingForBegin refl) (tells_complaint s at.WaitingForBegin h)

tells_nothing : (next : ServerMachine) (state : ServerState) → Tells (record { action = Disconnects; next = next }) state
tells_nothing next state = record { answer = λ said e. cc e; goes_on = λ e. cc e }

tells_mechanism : (s : ServerMachine) (mech response : List ℕ) (state : ServerState) → Tells (by_mechanism s mech response) state
tells_mechanism s mech response state =
    tells_if (bytes_eq mech (codes "EXTERNAL") && offers_external s.user && is_empty response) _ _ state (tells_reply s (server.DataOf []) at.WaitingForData state refl)
    (tells_if (bytes_eq mech (codes "EXTERNAL") && is_user s.user response) _ _ state (tells_accept s state)
    (tells_if (bytes_eq mech (codes "ANONYMOUS") && s.anonymous) _ _ state (tells_accept s state) (tells_reject s state)))

-- all rows but that of BEGIN once the client is accepted
in_auth : (s : ServerMachine) → s.state ≡ at.WaitingForAuth → (c : ClientCommand) → Tells (server_step_at s at.WaitingForAuth c) at.WaitingForAuth
in_auth s h client.Auth = tells_reject s at.WaitingForAuth
in_auth s h (client.AuthBy mech response) = tells_mechanism s mech response at.WaitingForAuth
in_auth s h client.Cancel = tells_complaint s at.WaitingForAuth h
in_auth s h client.Begin = tells_nothing (record s { state = at.Closed; agreed = false }) at.WaitingForAuth
in_auth s h (client.DataOf bytes) = tells_complaint s at.WaitingForAuth h
in_auth s h (client.Error text) = tells_reject s at.WaitingForAuth
in_auth s h client.Negotiate = tells_complaint s at.WaitingForAuth h
in_auth s h client.Other = tells_complaint s at.WaitingForAuth h

in_data : (s : ServerMachine) → s.state ≡ at.WaitingForData → (c : ClientCommand) → Tells (server_step_at s at.WaitingForData c) at.WaitingForData
in_data s h client.Auth = tells_complaint s at.WaitingForData h
in_data s h (client.AuthBy mech response) = tells_complaint s at.WaitingForData h
in_data s h client.Cancel = tells_reject s at.WaitingForData
in_data s h client.Begin = tells_nothing (record s { state = at.Closed; agreed = false }) at.WaitingForData
in_data s h (client.DataOf bytes) = tells_if (is_empty bytes || is_user s.user bytes) _ _ at.WaitingForData (tells_accept s at.WaitingForData) (tells_reject s at.WaitingForData)
in_data s h (client.Error text) = tells_reject s at.WaitingForData
in_data s h client.Negotiate = tells_complaint s at.WaitingForData h
in_data s h client.Other = tells_complaint s at.WaitingForData h

data InBegin (s : ServerMachine) (c : ClientCommand) : Type 0 where
  row : Tells (server_step_at s at.WaitingForBegin c) at.WaitingForBegin → InBegin s c
  begin : c ≡ client.Begin → InBegin s c

in_begin : (s : ServerMachine) → s.state ≡ at.WaitingForBegin → (c : ClientCommand) → InBegin s c
in_begin s h client.Auth = row (tells_complaint s at.WaitingForBegin h)
in_begin s h (client.AuthBy mech response) = row (tells_complaint s at.WaitingForBegin h)
in_begin s h client.Cancel = row (tells_reject s at.WaitingForBegin)
in_begin s h client.Begin = begin refl
in_begin s h (client.DataOf bytes) = row (tells_complaint s at.WaitingForBegin h)
in_begin s h (client.Error text) = row (tells_reject s at.WaitingForBegin)
in_begin s h client.Negotiate = row (tells_agreement s h)
in_begin s h client.Other = row (tells_complaint s at.WaitingForBegin h)

begun_says_nothing : (s : ServerMachine) (c : ClientCommand) (said : ServerCommand) → c ≡ client.Begin → (server_step_at s at.WaitingForBegin c).action ≡ Sends said → (server_step_at s at.WaitingForBegin c).next.state ≡ answered said at.WaitingForBegin
begun_says_nothing s c said e h = absurd (let x : Begins ≡ Sends said = sym (ap (λ (b : ClientCommand). (server_step_at s at.WaitingForBegin b).action) e) ∙ h in cc)

answers_at : (s : ServerMachine) (state : ServerState) → s.state ≡ state → (c : ClientCommand) (said : ServerCommand) → IsWaiting state → (server_step_at s state c).action ≡ Sends said → (server_step_at s state c).next.state ≡ answered said state
answers_at s at.WaitingForAuth is c said w h = (in_auth s is c).answer said h
answers_at s at.WaitingForData is c said w h = (in_data s is c).answer said h
answers_at s at.WaitingForBegin is c said w h = elim (in_begin s is c) [
  | row t ↦ t.answer said h
  | begin e ↦ begun_says_nothing s c said e h
]
answers_at s at.Begun is c said w h = absurd w
answers_at s at.Closed is c said w h = absurd w

begins_at : (s : ServerMachine) (state : ServerState) → s.state ≡ state → (c : ClientCommand) → (server_step_at s state c).action ≡ Begins → (c ≡ client.Begin) × (state ≡ at.WaitingForBegin)
begins_at s at.WaitingForAuth is c h = absurd ((in_auth s is c).goes_on h)
begins_at s at.WaitingForData is c h = absurd ((in_data s is c).goes_on h)
begins_at s at.WaitingForBegin is c h = elim (in_begin s is c) [
  | row t ↦ absurd (t.goes_on h)
  | begin e ↦ (e, refl)
]
begins_at s at.Begun is c h = cc h
begins_at s at.Closed is c h = cc h

pub table_answers : (s : ServerMachine) (c : ClientCommand) (said : ServerCommand) → IsWaiting s.state → (server_step s c).action ≡ Sends said → (server_step s c).next.state ≡ answered said s.state
unfolding server_step
table_answers s c said w h = answers_at s s.state refl c said w h

begins_with : (s : ServerMachine) (c : ClientCommand) → (c ≡ client.Begin) × (s.state ≡ at.WaitingForBegin) → (server_step s c).action ≡ Begins
unfolding server_step
begins_with s c h = ap (λ (b : ClientCommand). (server_step_at s s.state b).action) h.0 ∙ ap (λ (t : ServerState). (server_step_at s t client.Begin).action) h.1

pub table_begins : (s : ServerMachine) (c : ClientCommand) → ((server_step s c).action ≡ Begins) ↔ ((c ≡ client.Begin) × (s.state ≡ at.WaitingForBegin))
unfolding server_step
table_begins s c = (λ h. begins_at s s.state refl c h, begins_with s c)

-- NEGOTIATE_UNIX_FD is answered by AGREE_UNIX_FD or ERROR
settles_if : (t : Bool) (a b : ServerStep) (said : ServerCommand) → (a.action ≡ Sends said → settles said ≡ true) → (b.action ≡ Sends said → settles said ≡ true) → (if t then a else b).action ≡ Sends said
    → settles said ≡ true
settles_if true a b said h k = h
settles_if false a b said h k = k

settles_by : (line said : ServerCommand) → settles line ≡ true → Sends line ≡ Sends said → settles said ≡ true
settles_by line said h e = (let same : line ≡ said = cc in subst (λ l. settles l ≡ true) same h)

settled_at : (s : ServerMachine) (state : ServerState) (said : ServerCommand) → (server_step_at s state client.Negotiate).action ≡ Sends said → settles said ≡ true
settled_at s at.WaitingForAuth said h = settles_by (server.Error []) said refl h
settled_at s at.WaitingForData said h = settles_by (server.Error []) said refl h
settled_at s at.WaitingForBegin said h = settles_if s.descriptors _ (complains s) said (settles_by server.Agree said refl) (settles_by (server.Error []) said refl) h
settled_at s at.Begun said h = cc h
settled_at s at.Closed said h = cc h

pub table_settles : (s : ServerMachine) (said : ServerCommand) → (server_step s client.Negotiate).action ≡ Sends said → settles said ≡ true
unfolding server_step
table_settles s said h = settled_at s s.state said h
