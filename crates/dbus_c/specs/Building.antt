-- A message built of a draft, or changed by it: what each answer says, and which parts have it.
-- D-Bus Specification, "Message Format" and "Header Fields".
use Rattle.std.specs.Prelude.{◌≡◌, ◌⊎◌, ℕ, ◌<◌, ◌≤◌, List, [], ◌++◌, length, take, drop, Option, Some, None, MatchOption, nat_eq, if◌then◌else◌}
use Rattle.std.specs.Borrow.{Bor}
use Rattle.dbus_value_model.specs.declared.fault.Reason.{Reason}
use Rattle.dbus_value_model.specs.declared.fault.Reason.TheVariants.{ByteOrder, Overrun, MessageTooLong, Signature}
use Rattle.dbus_value_model.specs.declared.limits.Limits.{Limits}
use Rattle.dbus_value_model.specs.declared.order.Order.{Order}
use Rattle.dbus_value_model.specs.Values.{ValueTree}
use Rattle.dbus_message_model.specs.KnownFields.{field_value}
use Rattle.dbus_message_model.specs.Messages.{FieldTree, MessageTree, IsMessage, body_bytes, message_bytes, order_byte, text_in}
use Rattle.dbus_header.specs.MessageOutcomes.{IsWhole}
use Rattle.dbus_header.specs.NoMessage.{BeginsWithNone}
use Rattle.dbus_c_build.specs.Drafts.{HasParts, IsKept}
use Rattle.dbus_c_build.specs.Building.{IsRefusal}
use Rattle.dbus_c_build.specs.declared.given.Given.{Given}
use Rattle.dbus_c_build.specs.declared.draft.Draft.{Draft}
use Rattle.dbus_c_build.specs.declared.draft_fault.DraftFault.{DraftFault}
use Rattle.dbus_c_build.specs.declared.draft_fault.DraftFault.TheVariants as refusals
use Rattle.dbus_message_model.specs.declared.flag.TheConstants.{NO_REPLY_EXPECTED}
use Rattle.dbus_message_model.specs.declared.message_type.TheConstants.{METHOD_RETURN, ERROR}
use Rattle.dbus_c.specs.Parting.{number_of}
use Rattle.dbus_c.specs.Checking.{Tells, whole_told, nothing_told, fault_told}
use Rattle.dbus_c.specs.Reasons.{reason_number}
use Rattle.dbus_c.specs.declared.answers.TheConstants.{WHOLE, REFUSED, NO_MEMORY, NO_ROOM}
use Rattle.dbus_c.specs.declared.checking.Checked.{Checked}
use Rattle.dbus_c.specs.declared.drafts.DraftText.{DraftText}
use Rattle.dbus_c.specs.declared.drafts.WireDraft.{WireDraft}

-- the text that is given, or none
abbrev pub text_given : DraftText → Option (Bor (List ℕ))
text_given t = if nat_eq t.is_there 0 then None else Some t.text

-- what is kept of another message: nothing, or its header fields and its byte order
pub data Kept : Type 0 where
  Nothing : Kept
  FieldsOf : Order → MessageTree → Kept

abbrev pub fields_kept : Kept → List FieldTree
fields_kept Nothing = []
fields_kept (FieldsOf order m) = m.fields

abbrev pub KeepsOrder : Kept → Order → Type 0
KeepsOrder Nothing order = Unit {0}
KeepsOrder (FieldsOf own m) order = own ≡ order

-- this is kept of the message that is given, or nothing if none is
abbrev pub Keeps : Given → Kept → Type 0
Keeps g Nothing = g.kept ≡ None
Keeps g (FieldsOf order m) = MatchOption g.kept ⊥ (λ j. IsKept g.limits g.bytes.now order j m.fields)

-- the draft stands for these parts
pub record StandFor (k : Kept) (w : WireDraft) (p : Draft) : Type 0 where
  pub keeps : KeepsOrder k p.order
  pub order : w.order ≡ order_byte p.order
  pub numbers : (p.kind ≡ w.kind) × (p.flags ≡ w.flags) × (p.serial ≡ w.serial) × (p.reply_serial ≡ w.reply_serial) × (p.unix_fds ≡ w.unix_fds)
  pub path : p.path ≡ text_given w.path
  pub interface : p.interface ≡ text_given w.interface
  pub member : p.member ≡ text_given w.member
  pub error_name : p.error_name ≡ text_given w.error_name
  pub destination : p.destination ≡ text_given w.destination
  pub sender : p.sender ≡ text_given w.sender
  pub signature : p.signature ≡ text_given w.signature
  pub body : p.body ≡ w.body

-- no message within the limits has the parts that the draft stands for
abbrev pub StandForNone : Limits → Kept → WireDraft → Type 0
StandForNone limits k w = (p : Draft) (m : MessageTree) → StandFor k w p → HasParts (fields_kept k) p m → IsMessage limits p.order m → ⊥

-- what is told of a field, or under 0 of no field
abbrev pub field_told : Reason → (code : ℕ) → Checked
field_told reason code = record { length = 0; offset = 0; order = 0; reason = reason_number reason; field = code; reserved = 0 }

-- what is told of parts of which nothing is built
abbrev pub refusal_told : DraftFault → Checked
refusal_told refusals.Memory = nothing_told
refusal_told (refusals.TooLong code) = field_told (if nat_eq code 8 then Signature else MessageTooLong) code
refusal_told (refusals.Format f code) = record (fault_told f) { field = code }

-- why a draft stands for no parts: it names no byte order, or not that of the message that is kept;
-- or it does, and a number does not fit
abbrev pub AreNoParts : Kept → WireDraft → Reason → Type 0
AreNoParts k w ByteOrder = (order : Order) → KeepsOrder k order → w.order ≡ order_byte order → ⊥
AreNoParts k w Overrun = ((order : Order) × KeepsOrder k order × (w.order ≡ order_byte order)) × ((255 < w.kind) ⊎ (255 < w.flags))
AreNoParts k w _ = ⊥

-- Why the draft is refused, and what is told of it: nothing else may be told. Want of memory is no
-- such reason.
pub data IsWhy (limits : Limits) (k : Kept) (w : WireDraft) (told : Checked) : Type 0 where
  no_parts : (reason : Reason) → AreNoParts k w reason → told ≡ field_told reason 0 → IsWhy limits k w told
  why : (p : Draft) (reason : DraftFault) → StandFor k w p → (reason ≡ refusals.Memory → ⊥) → IsRefusal limits (fields_kept k) p reason → told ≡ refusal_told reason → IsWhy limits k w told

-- An answer, what is told beside it and the new bytes hold of the draft under the limits. A message
-- is built exactly if one within the limits has these parts, and then it is written if there is
-- room; but memory may run out.
pub data Builds (limits : Limits) (k : Kept) (w : WireDraft) (answer : ℕ) (told : Checked) (old new : List ℕ) : Type 0 where
  built : (p : Draft) (m : MessageTree) → StandFor k w p → HasParts (fields_kept k) p m → IsMessage limits p.order m → length (message_bytes p.order m) ≤ length old → answer ≡ WHOLE
      → told ≡ whole_told p.order (length (message_bytes p.order m)) → new ≡ message_bytes p.order m ++ drop (length (message_bytes p.order m)) old → Builds limits k w answer told old new
  no_room : (p : Draft) (m : MessageTree) → StandFor k w p → HasParts (fields_kept k) p m → IsMessage limits p.order m → length old < length (message_bytes p.order m) → answer ≡ NO_ROOM
      → told ≡ whole_told p.order (length (message_bytes p.order m)) → new ≡ old → Builds limits k w answer told old new
  refused : StandForNone limits k w → answer ≡ REFUSED → IsWhy limits k w told → new ≡ old → Builds limits k w answer told old new
  no_memory : answer ≡ NO_MEMORY → told ≡ nothing_told → new ≡ old → Builds limits k w answer told old new

-- The same if the fields of the message that the bytes begin with are kept. If they begin with
-- none, that is told of them.
pub data Rebuilds (limits : Limits) (b : List ℕ) (w : WireDraft) (answer : ℕ) (told : Checked) (old new : List ℕ) : Type 0 where
  rebuilt : (order : Order) (m : MessageTree) (n : ℕ) → IsWhole limits b order m n → Builds limits (FieldsOf order m) w answer told old new → Rebuilds limits b w answer told old new
  no_message : BeginsWithNone limits b → Tells limits b answer told → new ≡ old → Rebuilds limits b w answer told old new

-- ---- replies

-- a text is that of a field's value; of no value there is none
abbrev pub GivesText : Option ValueTree → DraftText → Type 0
GivesText None t = t.is_there ≡ 0
GivesText (Some v) t = (0 < t.is_there) × (t.text.now ≡ text_in v)

-- the draft of a reply to a call of this order and serial, which goes to whom it came from
abbrev pub reply_draft : Order → (serial : ℕ) → (to : DraftText) → WireDraft → WireDraft
reply_draft order serial to w = record w {
  order = order_byte order;
  kind = if nat_eq w.error_name.is_there 0 then METHOD_RETURN else ERROR;
  flags = NO_REPLY_EXPECTED;
  reply_serial = serial;
  destination = to;
}

-- The reply to the message that the bytes begin with is built. If they begin with none, that is
-- told of them.
pub data Replies (limits : Limits) (b : List ℕ) (w : WireDraft) (answer : ℕ) (told : Checked) (old new : List ℕ) : Type 0 where
  replied : (order : Order) (call : MessageTree) (n : ℕ) (to : DraftText) → IsWhole limits b order call n → GivesText (field_value 7 call.fields) to
      → Builds limits Nothing (reply_draft order call.serial to w) answer told old new → Replies limits b w answer told old new
  no_call : BeginsWithNone limits b → Tells limits b answer told → new ≡ old → Replies limits b w answer told old new

-- ---- a message's own draft

-- the bytes begin with a message within the limits, and the draft has its parts
pub record IsOwnDraft (limits : Limits) (b : List ℕ) (w : WireDraft) : Type 0 where
  pub order : Order
  pub message : MessageTree
  pub count : ℕ
  pub whole : IsWhole limits b order message count
  pub order_is : w.order ≡ order_byte order
  pub numbers : (w.kind ≡ message.kind) × (w.flags ≡ message.flags) × (w.serial ≡ message.serial)
  pub path : GivesText (field_value 1 message.fields) w.path
  pub interface : GivesText (field_value 2 message.fields) w.interface
  pub member : GivesText (field_value 3 message.fields) w.member
  pub error_name : GivesText (field_value 4 message.fields) w.error_name
  pub reply_serial : w.reply_serial ≡ number_of (field_value 5 message.fields)
  pub destination : GivesText (field_value 6 message.fields) w.destination
  pub sender : GivesText (field_value 7 message.fields) w.sender
  pub signature : GivesText (field_value 8 message.fields) w.signature
  pub unix_fds : w.unix_fds ≡ number_of (field_value 9 message.fields)
  pub body : w.body.now ≡ body_bytes order message

-- of its own draft the message of so many bytes that the bytes begin with comes back, byte for byte;
-- it is not refused
pub record ComesBack (b : List ℕ) (count answer : ℕ) (old new : List ℕ) : Type 0 where
  pub same : answer ≡ WHOLE → new ≡ take count b ++ drop count old
  pub accepted : answer ≡ REFUSED → ⊥
