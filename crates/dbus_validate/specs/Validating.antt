-- What is said of bytes that begin with a message, and of those that begin with none.
-- D-Bus Specification, "Message Format".
use Rattle.std.specs.Prelude.{◌≡◌, ℕ, ◌-◌, List, length, take, drop, ◌<◌, ◌≤◌, ◌+◌, None}
use Rattle.dbus_value_model.specs.declared.limits.Limits.{Limits}
use Rattle.dbus_message_model.specs.Messages.{MessageTree, body_start, body_bytes, FieldTree, lacks, required}
use Rattle.dbus_header.specs.MessageOutcomes.{IsWhole}
use Rattle.dbus_value_model.specs.Bytes.{gap_to}
use Rattle.dbus_value_model.specs.Reading.{Done, padding}
use Rattle.dbus_header.specs.HeaderReading.{fixed_header, fields_read}
use Rattle.dbus_walk.specs.declared.spot.MessageBytes.{MessageBytes}
use Rattle.dbus_validate.specs.declared.validating.Validated.{Validated}
use Rattle.dbus_validate.specs.Seen.{AreNoted, ArePlaced}
use Rattle.dbus_validate.specs.declared.validating.Head.{Head}
use Rattle.dbus_validate.specs.declared.seen.FieldPlaces.{FieldPlaces}
use Rattle.dbus_validate.specs.declared.whole.Whole.{Whole}

-- they begin with a message: its length and order, its parts, where the values of its known fields
-- stand among its own bytes, each where its own field has it, and where its body does
pub record IsValidated (limits : Limits) (bytes : List ℕ) (j : Validated) : Type 0 where
  pub message : MessageTree
  pub whole : IsWhole limits bytes j.order message j.length
  pub parts : (message.kind ≡ j.kind) × (message.flags ≡ j.flags) × (message.serial ≡ j.serial)
  pub fields : AreNoted message.fields (take j.length bytes) j.fields
  pub places : ArePlaced j.order message.fields j.fields
  pub body : (body_start j.order message.fields ≡ j.body) × (body_bytes j.order message ≡ take (j.length - j.body) (drop j.body bytes))

-- they are a message, all of them
pub record IsValidatedWhole (limits : Limits) (bytes : List ℕ) (j : Validated) : Type 0 where
  pub validated : IsValidated limits bytes j
  pub all : j.length ≡ length bytes

-- What stands before a body, as the code reads it.
-- D-Bus Specification, "Message Format".

-- the bytes begin with what stands before a message's body, and as many bytes follow as the body
-- has: of its values nothing is said
pub record IsHeaded (limits : Limits) (bytes : List ℕ) (x : Head) (seen : FieldPlaces) : Type 0 where
  pub fields : List FieldTree
  pub opened : 0 < limits.depth
  pub headed : fixed_header limits 0 bytes ≡ Done x.header 16 (drop 16 bytes)
  pub fielded : fields_read limits x.header.order x.header.fields 16 (drop 16 bytes) ≡ Done fields (16 + x.header.fields) (drop (16 + x.header.fields) bytes)
  pub lacks_none : lacks (required x.header.kind) fields ≡ None
  pub padded : padding 8 (16 + x.header.fields + 8) (16 + x.header.fields) (drop (16 + x.header.fields) bytes) ≡ Done tt x.start (drop x.start bytes)
  pub begins : x.start ≡ 16 + x.header.fields + gap_to 8 (16 + x.header.fields)
  pub ends : x.end ≡ x.start + x.header.body
  pub inside : x.end ≤ length bytes
  pub noted : AreNoted fields (take x.end bytes) seen
  pub placed : ArePlaced x.header.order fields seen

-- what is validated of the message, with where the values of its known fields stand
abbrev pub validated_of : Head → FieldPlaces → Validated
validated_of x seen = record { length = x.end; order = x.header.order; kind = x.header.kind; flags = x.header.flags; serial = x.header.serial; fields = seen; body = x.start }

-- A message that was validated in the bytes that begin with it.
-- D-Bus Specification, "Message Format".

-- what is said of it holds of these bytes
abbrev pub WasValidated : Whole → Type 0
WasValidated whole = IsValidated whole.limits whole.bytes.now whole.validated.now

-- the bytes begin with this message
abbrev pub IsWholeOf : Whole → MessageTree → Type 0
IsWholeOf whole m = IsWhole whole.limits whole.bytes.now whole.validated.now.order m whole.validated.now.length

-- the bytes of the message alone, and their order
abbrev pub IsOwn : Whole → MessageBytes → Type 0
IsOwn whole source = (source.order ≡ whole.validated.now.order) × (source.bytes.now ≡ take whole.validated.now.length whole.bytes.now)
