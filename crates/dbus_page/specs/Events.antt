-- What a message tells of calls and of names, in numbers and in texts one after another. D-Bus
-- Specification, "Message Types" ("Method Calls") and "Message Bus Messages".
use Rattle.std.specs.Prelude.{◌≡◌, ℕ, List, [], ◌++◌, length, Option, None, Some, unwrap_or, if◌then◌else◌}
use Rattle.dbus_message_model.specs.Messages.{MessageTree}
use Rattle.dbus_calls.specs.Events.{Event, event_of}
use Rattle.dbus_calls.specs.Events.Event.{Calls, Replies, Leaves, Passes}
use Rattle.dbus_calls.specs.OwnerChanges.{Change, change_of}
use Rattle.dbus_calls.specs.OwnerChanges.Change.{Owned, Free, Lost}
use Rattle.dbus_names.specs.Filters.{is_well_known}
use Rattle.dbus_names.specs.NameCalls.{NameCall}
use Rattle.dbus_names.specs.NameStates.{asked_by, wanted_change}
use Rattle.dbus_names.specs.Telling.{holder_told}
use Rattle.dbus_names.specs.declared.name_call.Holder.{Holder}
use Rattle.dbus_names.specs.declared.name_call.Holder.TheVariants.{Caller, Value, Sender}
use Rattle.dbus_page.specs.declared.event.PageEvent.{PageEvent}
use Rattle.dbus_page.specs.declared.event.Told.{Told}
use Rattle.dbus_page.specs.declared.event.TheConstants as the

-- the number of an event, its serial, its caller and the sender of a reply; of those that it has not,
-- 0 and no text
abbrev pub IsEvent : (number serial : ℕ) (caller sender : List ℕ) → Event → Type 0
IsEvent number serial caller sender (Calls c s wants) = (number ≡ (if wants then the.CALL else the.CALL_WITHOUT_REPLY)) × (serial ≡ s) × (caller ≡ c) × (sender ≡ [])
IsEvent number serial caller sender (Replies c s from) = (number ≡ the.REPLY) × (serial ≡ s) × (caller ≡ c) × (sender ≡ unwrap_or from [])
IsEvent number serial caller sender (Leaves name) = (number ≡ the.DEPARTURE) × (serial ≡ 0) × (caller ≡ name) × (sender ≡ [])
IsEvent number serial caller sender Passes = (number ≡ the.OTHER) × (serial ≡ 0) × (caller ≡ []) × (sender ≡ [])

-- the number of what is said of the owner of a name, the name, and the owner, if it tells one
abbrev pub IsChange : (number : ℕ) (name unique : List ℕ) → Change → Type 0
IsChange number name unique (Owned o) = (number ≡ the.OWNED) × (name ≡ o.name) × (unique ≡ o.unique)
IsChange number name unique (Free n) = (number ≡ the.FREE) × (name ≡ n) × (unique ≡ [])
IsChange number name unique (Lost o) = (number ≡ the.LOST) × (name ≡ o.name) × (unique ≡ o.unique)

-- the number of what a call asks of a name
abbrev pub asks : Holder → ℕ
asks Caller = the.ASKED_FOR_CALLER
asks Value = the.ASKED_FOR_OWNER
asks Sender = the.ASKED_BY_NAME

-- the number of what a message asks of a name, and the name; it tells no owner
abbrev pub IsAsked : (number : ℕ) (name unique : List ℕ) → Option NameCall → Type 0
IsAsked number name unique None = (number ≡ the.NOTHING) × (name ≡ []) × (unique ≡ [])
IsAsked number name unique (Some call) = (number ≡ asks call.holder) × (name ≡ call.name) × (unique ≡ [])

-- what a message says of a name, or else asks
abbrev pub IsSaid : (number : ℕ) (name unique : List ℕ) → Option Change → (asked : Option NameCall) → Type 0
IsSaid number name unique None asked = IsAsked number name unique asked
IsSaid number name unique (Some change) asked = IsChange number name unique change

-- the owner that a message tells as the reply to a call of each kind, or no text
abbrev pub AreHolders : (for_caller for_owner by_name : List ℕ) → MessageTree → Type 0
AreHolders for_caller for_owner by_name m =
    (for_caller ≡ unwrap_or (holder_told Caller m) []) × (for_owner ≡ unwrap_or (holder_told Value m) []) × (by_name ≡ unwrap_or (holder_told Sender m) [])

abbrev pub texts : (caller sender name unique for_caller for_owner by_name : List ℕ) → List ℕ
texts caller sender name unique for_caller for_owner by_name = caller ++ (sender ++ (name ++ (unique ++ (for_caller ++ (for_owner ++ by_name)))))

-- These are the texts, and these numbers and lengths are of them, for this message.
pub record Tells (e : PageEvent) (text : List ℕ) (m : MessageTree) : Type 0 where
  pub caller : List ℕ
  pub sender : List ℕ
  pub name : List ℕ
  pub unique : List ℕ
  pub for_caller : List ℕ
  pub for_owner : List ℕ
  pub by_name : List ℕ
  pub text_is : text ≡ texts caller sender name unique for_caller for_owner by_name
  pub call_lengths : (e.caller ≡ length caller) × (e.sender ≡ length sender)
  pub name_lengths : (e.name ≡ length name) × (e.unique ≡ length unique)
  pub holder_lengths : (e.for_caller ≡ length for_caller) × (e.for_owner ≡ length for_owner) × (e.by_name ≡ length by_name)
  pub reserved : e.reserved ≡ 0
  pub event : IsEvent e.event e.serial caller sender (event_of m)
  pub said : IsSaid e.says name unique (wanted_change is_well_known (change_of m)) (asked_by is_well_known m)
  pub holders : AreHolders for_caller for_owner by_name m

-- the numbers are those of what is told
pub record IsTold (e : PageEvent) (t : Told) : Type 0 where
  pub call_lengths : (e.caller ≡ length t.event.caller.now) × (e.sender ≡ length t.event.sender.now)
  pub name_lengths : (e.name ≡ length t.said.name.now) × (e.unique ≡ length t.said.unique.now)
  pub holder_lengths : (e.for_caller ≡ length t.holders.for_caller.now) × (e.for_owner ≡ length t.holders.for_owner.now) × (e.by_name ≡ length t.holders.by_name.now)
  pub reserved : e.reserved ≡ 0
  pub event : (e.event ≡ t.event.event) × (e.serial ≡ t.event.serial)
  pub says : e.says ≡ t.said.says
