-- What a message says of who has a name, by itself, or as the reply to a call. D-Bus
-- Specification, "Message Bus Messages" ("org.freedesktop.DBus.RequestName",
-- "org.freedesktop.DBus.GetNameOwner", "org.freedesktop.DBus.NameOwnerChanged",
-- "org.freedesktop.DBus.NameLost", "org.freedesktop.DBus.NameAcquired").
use Rattle.std.specs.Prelude.{ℕ, List, Bool, false, ◌==◌, ◌||◌, Option, None, Some, option_map, if◌then◌else◌}
use Rattle.dbus_texts.specs.Types.{UINT32}
use Rattle.dbus_value_model.specs.Values.{ValueTree, NumberValue}
use Rattle.dbus_message_model.specs.Messages.{MessageTree}
use Rattle.dbus_message_model.specs.KnownFields.{body_value}
use Rattle.dbus_message_model.specs.declared.message_type.TheConstants as message
use Rattle.dbus_match.specs.Matching.{string_of}
use Rattle.dbus_calls.specs.Answering.{is_unique}
use Rattle.dbus_calls.specs.Events.{destination_of, sender_of}
use Rattle.dbus_calls.specs.OwnerChanges.{Change}
use Rattle.dbus_calls.specs.OwnerChanges.Change.{Owned}
use Rattle.dbus_names.specs.NameCalls.{NameCall}
use Rattle.dbus_names.specs.declared.name_call.Holder.{Holder}
use Rattle.dbus_names.specs.declared.name_call.Holder.TheVariants.{Caller, Value, Sender}

-- RequestName returns 1 if its caller has the name from now on, and 4 if it has it already
abbrev pub is_had : Option ValueTree → Bool
is_had (Some (NumberValue UINT32 n)) = (n == 1) || (n == 4)
is_had v = false

-- the connection that has the name, if a METHOD_RETURN says so: its receiver, its first value or
-- its sender
abbrev pub holder_by : Holder → (reply : MessageTree) → Option (List ℕ)
holder_by Caller reply = if is_had (body_value 0 reply.body) then destination_of reply else None
holder_by Value reply = string_of (body_value 0 reply.body)
holder_by Sender reply = sender_of reply

-- only a unique name is one of a connection
abbrev pub of_unique : Option (List ℕ) → Option (List ℕ)
of_unique None = None
of_unique (Some name) = if is_unique name then Some name else None

-- an ERROR tells nothing
abbrev pub holder_told : Holder → (reply : MessageTree) → Option (List ℕ)
holder_told holder reply = if reply.kind == message.METHOD_RETURN then of_unique (holder_by holder reply) else None

-- what the reply to a call says
abbrev pub reply_told : NameCall → (reply : MessageTree) → Option Change
reply_told call reply = option_map (λ unique. Owned (record { name = call.name; unique = unique })) (holder_told call.holder reply)
