-- The calls whose replies tell who has a name. D-Bus Specification, "Message Bus Names" and
-- "Message Bus Messages" ("org.freedesktop.DBus.RequestName",
-- "org.freedesktop.DBus.GetNameOwner").
use Rattle.std.specs.Prelude.{ℕ, List, ◌==◌, Option, None, Some, option_map, if◌then◌else◌, codes}
use Rattle.std.specs.Str.{bytes_eq}
use Rattle.dbus_message_model.specs.Messages.{MessageTree}
use Rattle.dbus_message_model.specs.KnownFields.{body_value}
use Rattle.dbus_message_model.specs.declared.field_code.TheConstants as field
use Rattle.dbus_message_model.specs.declared.message_type.TheConstants as message
use Rattle.dbus_match.specs.Matching.{string_of}
use Rattle.dbus_calls.specs.Answering.{bus, is_ownable}
use Rattle.dbus_calls.specs.Events.{destination_of, text_at}
use Rattle.dbus_calls.specs.OwnerChanges.{is_text}
use Rattle.dbus_names.specs.declared.name_call.Holder.{Holder}
use Rattle.dbus_names.specs.declared.name_call.Holder.TheVariants.{Caller, Value, Sender}

-- a call, and who has this name, if its reply says that some connection does
pub record NameCall : Type 0 where
  pub name : List ℕ
  pub holder : Holder

-- to whom it was sent
abbrev pub receiver : Holder → (name : List ℕ) → List ℕ
receiver Caller name = bus
receiver Value name = bus
receiver Sender name = name

abbrev pub receiver_of : NameCall → Option (List ℕ)
receiver_of call = Some (receiver call.holder call.name)

-- the first value of a call is a name
abbrev pub names_first : Holder → MessageTree → Option NameCall
names_first holder call = option_map (λ name. record { name = name; holder = holder }) (string_of (body_value 0 call.body))

-- a call to the bus of this member
abbrev pub bus_call : (member : Option (List ℕ)) → MessageTree → Option NameCall
bus_call member call =
    if is_text member (codes "RequestName") then names_first Caller call
    else if is_text member (codes "GetNameOwner") then names_first Value call
    else None

-- a call to this destination
abbrev pub call_to : (destination : Option (List ℕ)) → MessageTree → Option NameCall
call_to None call = None
call_to (Some to) call = if bytes_eq to bus then bus_call (text_at field.MEMBER call) call else Some (record { name = to; holder = Sender })

-- a connection may have its name beside the unique one
abbrev pub of_ownable : Option NameCall → Option NameCall
of_ownable None = None
of_ownable (Some call) = if is_ownable call.name then Some call else None

-- what a message asks, if it is such a call
abbrev pub name_call_of : MessageTree → Option NameCall
name_call_of m = if m.kind == message.METHOD_CALL then of_ownable (call_to (destination_of m) m) else None
