-- What the bus says of the owners of names. D-Bus Specification, "Message Bus Messages"
-- ("org.freedesktop.DBus.NameOwnerChanged", "org.freedesktop.DBus.NameLost",
-- "org.freedesktop.DBus.NameAcquired").
use Rattle.std.specs.Prelude.{ℕ, List, [], Bool, false, ◌&&◌, ◌==◌, Option, None, Some, option_map, if◌then◌else◌, codes}
use Rattle.std.specs.Str.{bytes_eq}
use Rattle.dbus_value_model.specs.Values.{ValueTree}
use Rattle.dbus_message_model.specs.Messages.{MessageTree}
use Rattle.dbus_message_model.specs.KnownFields.{field_value, body_value}
use Rattle.dbus_message_model.specs.declared.field_code.TheConstants as field
use Rattle.dbus_message_model.specs.declared.message_type.TheConstants as message
use Rattle.dbus_match.specs.Matching.{Ownership, string_of, text_of}
use Rattle.dbus_calls.specs.Answering.{bus, is_unique}

-- what is said of the owner of a name
pub data Change : Type 0 where
  -- it has this owner from now on
  Owned : Ownership → Change
  -- nobody has it any more
  Free : (name : List ℕ) → Change
  -- this owner has it no longer
  Lost : Ownership → Change

-- the name that a change is of
abbrev pub name_of : Change → List ℕ
name_of (Owned o) = o.name
name_of (Free name) = name
name_of (Lost o) = o.name

-- the text is there, and it is this
abbrev pub is_text : Option (List ℕ) → List ℕ → Bool
is_text None v = false
is_text (Some w) v = bytes_eq w v

abbrev pub has_text : ℕ → MessageTree → List ℕ → Bool
has_text code m v = is_text (text_of (field_value code m.fields)) v

-- a signal of the bus
abbrev pub is_of_bus : MessageTree → Bool
is_of_bus m = (m.kind == message.SIGNAL) && (has_text field.SENDER m bus && has_text field.INTERFACE m bus)

-- a name and its owner, whose name is unique: no other is one of a connection
abbrev pub owned_by : (name unique : List ℕ) → Option Ownership
owned_by name unique = if is_unique unique then Some (record { name = name; unique = unique }) else None

-- a name has this owner, or nobody has it if that is empty
abbrev pub owned_or_free : (name unique : List ℕ) → Option Change
owned_or_free name unique = if bytes_eq unique [] then Some (Free name) else option_map Owned (owned_by name unique)

-- of three STRINGs the first is the name, the second its old owner and the third its new one
abbrev pub change_said : (name old new : Option (List ℕ)) (more : Option ValueTree) → Option Change
change_said (Some name) (Some old) (Some new) None = owned_or_free name new
change_said a b c d = None

-- what a signal NameOwnerChanged says
abbrev pub changed_by : MessageTree → Option Change
changed_by m = change_said (string_of (body_value 0 m.body)) (string_of (body_value 1 m.body)) (string_of (body_value 2 m.body)) (body_value 3 m.body)

-- of one STRING it is the name, and the signal is to the connection that it is about
abbrev pub named_to : (name to : Option (List ℕ)) (more : Option ValueTree) → Option Ownership
named_to (Some name) (Some to) None = owned_by name to
named_to a b c = None

-- the name in a signal NameAcquired or NameLost, and the connection that it is to
abbrev pub name_told : MessageTree → Option Ownership
name_told m = named_to (string_of (body_value 0 m.body)) (text_of (field_value field.DESTINATION m.fields)) (body_value 1 m.body)

-- what a signal of the bus says of the owner of a name, by its member
abbrev pub said_by : MessageTree → Option Change
said_by m =
    if has_text field.MEMBER m (codes "NameOwnerChanged") then changed_by m
    else if has_text field.MEMBER m (codes "NameAcquired") then option_map Owned (name_told m)
    else if has_text field.MEMBER m (codes "NameLost") then option_map Lost (name_told m)
    else None

-- what a message says of it
abbrev pub change_of : MessageTree → Option Change
change_of m = if is_of_bus m then said_by m else None
