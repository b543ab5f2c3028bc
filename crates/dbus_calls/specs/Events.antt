-- What a message is to the calls that wait for a reply. D-Bus Specification, "Message Types",
-- "Message Format" (serials, NO_REPLY_EXPECTED), "Header Fields" (REPLY_SERIAL, DESTINATION,
-- SENDER) and "Message Bus Messages" ("org.freedesktop.DBus.NameOwnerChanged").
use Rattle.std.specs.Prelude.{◌≡◌, ℕ, List, [], Bool, ◌||◌, ◌==◌, bit_and, Option, None, Some, option_map, unwrap_or, if◌then◌else◌}
use Rattle.dbus_texts.specs.Types.{UINT32}
use Rattle.dbus_value_model.specs.Values.{ValueTree, NumberValue}
use Rattle.dbus_value_model.specs.declared.order.Order.{Order}
use Rattle.dbus_message_model.specs.Messages.{MessageTree}
use Rattle.dbus_message_model.specs.KnownFields.{field_value}
use Rattle.dbus_message_model.specs.declared.field_code.TheConstants as field
use Rattle.dbus_message_model.specs.declared.flag.TheConstants as flag
use Rattle.dbus_message_model.specs.declared.message_type.TheConstants as message
use Rattle.dbus_match.specs.Matching.{text_of}
use Rattle.dbus_view.specs.Views.{ViewState, Views}
use Rattle.dbus_calls.specs.Answering.{is_unique}
use Rattle.dbus_calls.specs.Changes.{change_seen}
use Rattle.dbus_calls.specs.OwnerChanges.{Change, change_of}
use Rattle.dbus_calls.specs.OwnerChanges.Change.{Free}
use Rattle.dbus_calls.specs.declared.event.Event.{Event as EventSeen}
use Rattle.dbus_calls.specs.declared.event.Event.TheVariants as seen

-- what a message is to the calls that wait
pub data Event : Type 0 where
  -- a call of this caller and serial, and whether it wants a reply
  Calls : (caller : List ℕ) (serial : ℕ) (wants_reply : Bool) → Event
  -- a reply of this sender to the call of this caller and serial
  Replies : (caller : List ℕ) (serial : ℕ) (sender : Option (List ℕ)) → Event
  -- the bus says that nobody has this unique name any more: its connection is gone
  Leaves : (name : List ℕ) → Event
  -- any other
  Passes : Event

-- the text of a header field
abbrev pub text_at : ℕ → MessageTree → Option (List ℕ)
text_at code m = text_of (field_value code m.fields)

abbrev number_of : Option ValueTree → Option ℕ
number_of (Some (NumberValue UINT32 n)) = Some n
number_of v = None

abbrev pub destination_of : MessageTree → Option (List ℕ)
destination_of m = text_at field.DESTINATION m

abbrev pub sender_of : MessageTree → Option (List ℕ)
sender_of m = text_at field.SENDER m

-- whom a call is from and a reply goes to, or no text, which is no bus name, if that is not said
abbrev pub caller_of : MessageTree → List ℕ
caller_of call = unwrap_or (sender_of call) []

abbrev pub replied_to : MessageTree → List ℕ
replied_to reply = unwrap_or (destination_of reply) []

-- the serial of the call that a reply is to, or 0, which is no serial, if that is not said
abbrev pub reply_serial_of : MessageTree → ℕ
reply_serial_of reply = unwrap_or (number_of (field_value field.REPLY_SERIAL reply.fields)) 0

-- its flag NO_REPLY_EXPECTED is not set
abbrev pub wants_reply : MessageTree → Bool
wants_reply call = bit_and call.flags flag.NO_REPLY_EXPECTED == 0

-- a unique name that nobody has any more
abbrev pub gone : (name : List ℕ) → Event
gone name = if is_unique name then Leaves name else Passes

abbrev pub departed : Option Change → Event
departed (Some (Free name)) = gone name
departed change = Passes

abbrev pub event_of : MessageTree → Event
event_of m =
    if m.kind == message.METHOD_CALL then Calls (caller_of m) m.serial (wants_reply m)
    else if (m.kind == message.METHOD_RETURN) || (m.kind == message.ERROR) then Replies (replied_to m) (reply_serial_of m) (sender_of m)
    else departed (change_of m)

-- what the code says of it
abbrev pub event_seen : EventSeen → Event
event_seen (seen.Call c) = Calls c.caller.now c.serial c.wants_reply
event_seen (seen.Reply r) = Replies r.caller.now r.serial (option_map (λ s. s.now) r.sender)
event_seen (seen.Departure name) = Leaves name.now
event_seen (seen.Other change) = Passes

-- what it says of the owner of a name
abbrev pub change_in : EventSeen → Option Change
change_in (seen.Departure name) = Some (Free name.now)
change_in (seen.Other change) = option_map change_seen change
change_in event = None

-- it is that of the message that a view is of
pub record IsEventOf (e : EventSeen) (v : ViewState) : Type 0 where
  pub event : (order : Order) (m : MessageTree) → Views v order m → event_seen e ≡ event_of m
  pub change : (order : Order) (m : MessageTree) → Views v order m → change_in e ≡ change_of m
