-- Who has which name, as messages tell it in turn. D-Bus Specification, "Message Bus Names".
use Rattle.std.specs.Prelude.{ℕ, List, [], ◌∷◌, Bool, true, false, Option, None, Some, if◌then◌else◌}
use Rattle.std.specs.FinSet.{contains}
use Rattle.std.specs.Option.{option_or}
use Rattle.std.specs.Str.{bytes_eq}
use Rattle.dbus_message_model.specs.Messages.{MessageTree}
use Rattle.dbus_rule_set.specs.Owners.{OwnerSet, owned_anew, without_owner, without_owners, without_unique}
use Rattle.dbus_calls.specs.Events.{Event, event_of}
use Rattle.dbus_calls.specs.Events.Event.{Calls, Replies, Leaves, Passes}
use Rattle.dbus_calls.specs.OwnerChanges.{Change, change_of, name_of}
use Rattle.dbus_calls.specs.OwnerChanges.Change.{Owned, Free, Lost}
use Rattle.dbus_calls.specs.Waiting.{Waiting, after_reply, answered, with_call, without_call, without_caller, no_calls}
use Rattle.dbus_names.specs.NameCalls.{NameCall, name_call_of, receiver_of}
use Rattle.dbus_names.specs.Telling.{reply_told}

-- the name by which each connection is known, of which this is the unique name
abbrev pub KnownNames : Type 0
KnownNames = (unique : List ℕ) → Option (List ℕ)

-- the owners of names, the open calls whose replies tell more, and the names of connections
pub record NameState : Type 0 where
  pub owners : OwnerSet
  pub calls : Waiting NameCall
  pub names : KnownNames

-- these are known, no call is open, and no message told a name
abbrev pub known_first : OwnerSet → NameState
known_first owners = record { owners = owners; calls = no_calls; names = λ unique. None }

-- the owners after what is said of one
abbrev pub owners_by : Change → OwnerSet → OwnerSet
owners_by (Owned o) os = owned_anew o.name o.unique os
owners_by (Free name) os = without_owners name os
owners_by (Lost o) os = without_owner o.name o.unique os

-- the open call that a message answers
abbrev pub answered_by : Waiting NameCall → Event → Option NameCall
answered_by w (Replies c s sender) = answered receiver_of (w c s) sender
answered_by w event = None

-- a call is open after it, or none
abbrev pub with_or_without : (caller : List ℕ) (serial : ℕ) → Option NameCall → Waiting NameCall → Waiting NameCall
with_or_without c s None w = without_call c s w
with_or_without c s (Some call) w = with_call c s call w

-- the open calls after a message, if this is what it asks
abbrev pub calls_after : Waiting NameCall → Event → (asked : Option NameCall) → Waiting NameCall
calls_after w (Calls c s true) asked = with_or_without c s asked w
calls_after w (Calls c s false) asked = without_call c s w
calls_after w (Replies c s sender) asked = after_reply receiver_of (w c s) c s sender w
calls_after w (Leaves name) asked = without_caller name w
calls_after w Passes asked = w

-- ---- the name of a connection

-- the name, if the connection has it
abbrev pub if_had : OwnerSet → (unique : List ℕ) → Option (List ℕ) → Option (List ℕ)
if_had os unique None = None
if_had os unique (Some name) = if contains os (record { name = name; unique = unique }) then Some name else None

-- the name that it is said to have from now on
abbrev pub name_said : Option Change → (unique : List ℕ) → Option (List ℕ)
name_said (Some (Owned o)) unique = if bytes_eq o.unique unique then Some o.name else None
name_said change unique = None

-- the owners after what is said, if anything is
abbrev pub owners_after : Option Change → OwnerSet → OwnerSet
owners_after None os = os
owners_after (Some change) os = owners_by change os

-- after what is said, with these owners: it keeps its name as long as it has it, or else it is known
-- by the one that it is said to have
abbrev pub named_by : Option Change → OwnerSet → KnownNames → KnownNames
named_by said os names unique = option_or (if_had os unique (names unique)) (if_had os unique (name_said said unique))

-- a connection that is gone has no name any more
abbrev pub owners_left : Event → OwnerSet → OwnerSet
owners_left (Leaves name) os = without_unique name os
owners_left event os = os

-- and is known by none
abbrev pub names_left : Event → KnownNames → KnownNames
names_left (Leaves name) names unique = if bytes_eq name unique then None else names unique
names_left event names unique = names unique

-- Of the names that are wanted.
module _ (wants : List ℕ → Bool) where
  abbrev pub wanted_change : Option Change → Option Change
  wanted_change None = None
  wanted_change (Some change) = if wants (name_of change) then Some change else None

  abbrev pub wanted_call : Option NameCall → Option NameCall
  wanted_call None = None
  wanted_call (Some call) = if wants call.name then Some call else None

  -- what a message asks of a name that is wanted
  abbrev pub asked_by : MessageTree → Option NameCall
  asked_by m = wanted_call (name_call_of m)

  -- what a message says of such a name, if it answers this call, or none. A call whose name is not
  -- wanted is not kept
  abbrev pub told_by : (answered : Option NameCall) → MessageTree → Option Change
  told_by None m = wanted_change (change_of m)
  told_by (Some call) m = reply_told call m

  -- what is known after a message that says this
  abbrev pub known_by : (said : Option Change) → NameState → MessageTree → NameState
  known_by said state m =
      let owners = owners_after said state.owners in
      record {
        owners = owners_left (event_of m) owners;
        calls = calls_after state.calls (event_of m) (asked_by m);
        names = names_left (event_of m) (named_by said owners state.names);
      }

  -- what is known after a message
  abbrev pub known_after : NameState → MessageTree → NameState
  known_after state m = known_by (told_by (answered_by state.calls (event_of m)) m) state m

  -- after several
  abbrev pub known_after_all : NameState → List MessageTree → NameState
  known_after_all state [] = state
  known_after_all state (m ∷ messages) = known_after_all (known_after state m) messages
