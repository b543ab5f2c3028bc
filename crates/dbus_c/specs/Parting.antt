-- The parts of the message that bytes begin with, in numbers.
-- D-Bus Specification, "Message Format" and "Header Fields".
use Rattle.std.specs.Prelude.{◌≡◌, ℕ, ◌+◌, ◌≤◌, List, length, take, drop, Option, Some, None}
use Rattle.dbus_value_model.specs.declared.limits.Limits.{Limits}
use Rattle.dbus_value_model.specs.declared.order.Order.{Order}
use Rattle.dbus_value_model.specs.Values.{ValueTree, ValueTrees, NoValues, MoreValues}
use Rattle.dbus_message_model.specs.KnownFields.{field_value}
use Rattle.dbus_message_model.specs.Messages.{FieldTree, MessageTree, order_byte, body_start, body_bytes, text_in, number_in, field_array}
use Rattle.dbus_header.specs.MessageOutcomes.{IsWhole}
use Rattle.dbus_validate.specs.Seen.{field_text_start}
use Rattle.dbus_flatten.specs.Flattening.{AreFlat}
use Rattle.dbus_flatten.specs.declared.flat_item.FlatItem.{FlatItem}
use Rattle.dbus_c.specs.declared.parts.WireParts.{WireParts}
use Rattle.dbus_c.specs.declared.parts.TextPlace.{TextPlace}
use Rattle.dbus_c.specs.declared.flattening.Part.{Part}
use Rattle.dbus_c.specs.declared.flattening.Part.TheVariants.{Body, Fields}

-- where there is no text, all is 0
abbrev pub no_place : TextPlace
no_place = record { offset = 0; length = 0; is_there = 0 }

-- where the text of a field's value stands among a message's bytes; of no value all is 0
abbrev pub IsPlaceOf : Option ValueTree → List ℕ → TextPlace → Type 0
IsPlaceOf None b p = p ≡ no_place
IsPlaceOf (Some v) b p = (p.is_there ≡ 1) × (text_in v ≡ take p.length (drop p.offset b)) × (p.offset + p.length ≤ length b)

-- the text of the first field of a code, if there is one, stands where that field has it
abbrev pub IsOwnPlace : Order → (c : ℕ) → List FieldTree → TextPlace → Type 0
IsOwnPlace order c fs p = (v : ValueTree) → field_value c fs ≡ Some v → p.offset ≡ field_text_start order c fs v

abbrev pub IsFieldPlace : Order → (c : ℕ) → List FieldTree → List ℕ → TextPlace → Type 0
IsFieldPlace order c fs b p = IsPlaceOf (field_value c fs) b p × IsOwnPlace order c fs p

-- the number of a field's value; of no value 0
abbrev pub number_of : Option ValueTree → ℕ
number_of None = 0
number_of (Some v) = number_in v

-- the texts of the known fields stand there, each where its own field has it, and their numbers are
-- these
pub record HasFields (order : Order) (fs : List FieldTree) (b : List ℕ) (p : WireParts) : Type 0 where
  pub path : IsFieldPlace order 1 fs b p.path
  pub interface : IsFieldPlace order 2 fs b p.interface
  pub member : IsFieldPlace order 3 fs b p.member
  pub error_name : IsFieldPlace order 4 fs b p.error_name
  pub reply_serial : p.reply_serial ≡ number_of (field_value 5 fs)
  pub destination : IsFieldPlace order 6 fs b p.destination
  pub sender : IsFieldPlace order 7 fs b p.sender
  pub signature : IsFieldPlace order 8 fs b p.signature
  pub unix_fds : p.unix_fds ≡ number_of (field_value 9 fs)

-- the bytes begin with a message within the limits that has these parts: its fields stand among its
-- own bytes, and its body begins after the header and the padding to 8, and ends where the message
-- does
pub record HasParts (limits : Limits) (b : List ℕ) (p : WireParts) : Type 0 where
  pub order : Order
  pub message : MessageTree
  pub whole : IsWhole limits b order message p.length
  pub order_is : p.order ≡ order_byte order
  pub numbers : (p.kind ≡ message.kind) × (p.flags ≡ message.flags) × (p.serial ≡ message.serial)
  pub fields : HasFields order message.fields (take p.length b) p
  pub body : p.body ≡ body_start order message.fields
  pub body_length : p.length ≡ p.body + length (body_bytes order message)
  pub body_bytes : drop p.body (take p.length b) ≡ body_bytes order message

-- A part of the message that bytes begin with as a row of items: its header fields, or its body.
-- D-Bus Specification, "Message Format" and "Header Fields".

-- the values of a part: the one array of the type a(yv) of the header fields, or the body's
abbrev pub values_of : Part → MessageTree → ValueTrees
values_of Fields m = MoreValues (field_array m.fields) NoValues
values_of Body m = m.body

-- the offset at which they begin
abbrev pub start_of : Part → Order → MessageTree → ℕ
start_of Fields order m = 12
start_of Body order m = body_start order m.fields

-- the bytes begin with a message within the limits, the values of whose part make so many items, of
-- which those from a place on are written over those before
pub record IsPartFlat (part : Part) (limits : Limits) (b : List ℕ) (first : ℕ) (before items : List FlatItem) (count : ℕ) : Type 0 where
  pub order : Order
  pub message : MessageTree
  pub length : ℕ
  pub whole : IsWhole limits b order message length
  pub flat : AreFlat order (start_of part order message) (values_of part message) first before items count
