-- Where the values of the known fields stand among a message's bytes.
-- D-Bus Specification, "Header Fields".
use Rattle.std.specs.Prelude.{◌≡◌, ℕ, ◌+◌, ◌≤◌, List, [], ◌∷◌, length, map, take, drop, true, nat_eq, if◌then◌else◌, Option, Some, None, slice_index_or, false, ◌&&◌}
use Rattle.dbus_types.specs.Alignments.{length_width}
use Rattle.dbus_value_model.specs.Bytes.{gap_to}
use Rattle.dbus_value_model.specs.declared.order.Order.{Order}
use Rattle.dbus_value_model.specs.Spelling.{spellings}
use Rattle.dbus_value_model.specs.Values.{ValueTree, TextValue, value_trees}
use Rattle.dbus_message_model.specs.Messages.{FieldTree, field_struct, is_known, text_in, number_in, want, Want, Anything, OfType, Name, Serial, is_particular, has_code}
use Rattle.dbus_message_model.specs.KnownFields.{field_value}
use Rattle.dbus_value_model.specs.declared.limits.Limits.{Limits}
use Rattle.dbus_value_model.specs.Reading.{Done}
use Rattle.dbus_header.specs.HeaderReading.{wanted_value, field_read}
use Rattle.dbus_value_validator.specs.Endings.{IsNotRead}
use Rattle.dbus_validate.specs.declared.seen.FieldPlace.{FieldPlace}
use Rattle.dbus_validate.specs.declared.seen.FieldPlaces.{FieldPlaces}
use Rattle.dbus_validate.specs.declared.field_values.Held.{Held}

-- its text stands there, within the bytes, and its number is this, where it has one
pub record StandsAt (v : ValueTree) (bytes : List ℕ) (p : FieldPlace) : Type 0 where
  pub text : text_in v ≡ take p.length (drop p.start bytes)
  pub inside : p.start + p.length ≤ length bytes
  pub number : number_in v ≡ p.number

-- where there is a value its place is noted, and where there is none nothing is
abbrev pub IsNotedOf : Option ValueTree → List ℕ → Option FieldPlace → Type 0
IsNotedOf None bytes None = Unit {0}
IsNotedOf None bytes (Some p) = ⊥
IsNotedOf (Some v) bytes None = ⊥
IsNotedOf (Some v) bytes (Some p) = StandsAt v bytes p

-- of each known code the value of the first field is noted, and nothing where there is no field of
-- it
abbrev pub AreNoted : List FieldTree → List ℕ → FieldPlaces → Type 0
AreNoted fs bytes seen = (c : ℕ) → is_known c ≡ true → IsNotedOf (field_value c fs) bytes (slice_index_or seen.places c None)

-- ---- where the texts begin

-- the fields before the first one of a code
abbrev pub fields_before : ℕ → List FieldTree → List FieldTree
fields_before c [] = []
fields_before c (f ∷ fs) = if nat_eq f.code c then [] else f ∷ fields_before c fs

-- where a message's field ends that comes after others, and the next one begins with its padding:
-- the first begins at 16
abbrev pub field_start : Order → (before : List FieldTree) → ℕ
field_start order before = 16 + length (spellings order 16 (value_trees (map field_struct before)))

-- where the value of a known field begins: after the field's padding to 8, its code, and the
-- signature of one letter that its variant has
abbrev pub known_start : (field : ℕ) → ℕ
known_start field = field + gap_to 8 field + 1 + 3

-- where the text of a value begins that itself begins at an offset: after its padding and its
-- length; of a value that is no text, 0
abbrev pub text_start : (at : ℕ) → ValueTree → ℕ
text_start at (TextValue k t) = at + gap_to (length_width k) at + length_width k
text_start at v = 0

-- of the first field of a code, the text begins here if its value is this
abbrev pub field_text_start : Order → (c : ℕ) → List FieldTree → ValueTree → ℕ
field_text_start order c fs v = text_start (known_start (field_start order (fields_before c fs))) v

-- of each known code the text of the first field is noted where that field has it
abbrev pub ArePlaced : Order → List FieldTree → FieldPlaces → Type 0
ArePlaced order fs seen = (c : ℕ) (v : ValueTree) (p : FieldPlace) → is_known c ≡ true → field_value c fs ≡ Some v → slice_index_or seen.places c None ≡ Some p → p.start ≡ field_text_start order c fs v

-- The value of a header field, as it is validated: where its text stands, and its number.
-- D-Bus Specification, "Header Fields".

-- of a known field: its text stands there, and its number is this, where it has one
abbrev pub IsNoted : Want → ValueTree → List ℕ → Held → Type 0
IsNoted Anything v bytes h = Unit {0}
IsNoted (OfType t) v bytes h = (text_in v ≡ take h.length (drop h.start bytes)) × (number_in v ≡ h.number)
IsNoted (Name k) v bytes h = (text_in v ≡ take h.length (drop h.start bytes)) × (number_in v ≡ h.number)
IsNoted Serial v bytes h = (text_in v ≡ take h.length (drop h.start bytes)) × (number_in v ≡ h.number)

-- of a known field whose value's signature begins at an offset: its text begins there, after a
-- signature of three bytes
abbrev pub IsPlaced : Want → (at : ℕ) → ValueTree → Held → Type 0
IsPlaced w at v h = is_particular w ≡ true → h.start ≡ text_start (at + 3) v

-- a value as it is wanted, after its signature, is read whole, and is noted
abbrev pub IsHeld : Limits → Order → (end : ℕ) → Want → (at : ℕ) → List ℕ → Held → Type 0
IsHeld limits order end w at bytes h =
    (v : ValueTree) × (wanted_value limits order end w at (drop at bytes) ≡ Done v h.after (drop h.after bytes)) × IsNoted w v bytes h × IsPlaced w at v h

-- what a call says of it: where it is held, or that it is not read whole
abbrev pub Holds : Limits → Order → (end : ℕ) → Want → (at : ℕ) → List ℕ → Option Held → Type 0
Holds limits order end w at bytes None = IsNotRead (wanted_value limits order end w at (drop at bytes))
Holds limits order end w at bytes (Some h) = IsHeld limits order end w at bytes h

-- a field of a code, after those before it, is read whole, and its value is noted
abbrev pub IsHeldField : Limits → Order → (end : ℕ) → (before : List FieldTree) → (at : ℕ) → List ℕ → (code : ℕ) → Held → Type 0
IsHeldField limits order end before at bytes code h =
    (v : ValueTree) × (field_read limits order end before at (drop at bytes) ≡ Done (record { code = code; value = v }) h.after (drop h.after bytes)) × IsNoted (want code) v bytes h
    × (is_known code ≡ true → h.start ≡ text_start (known_start at) v)

-- what a call says of a field: which it is, where its code is unknown or not among those before it,
-- and else that none is read whole
abbrev pub HoldsField : Limits → Order → (end : ℕ) → (before : List FieldTree) → (at : ℕ) → List ℕ → Option (ℕ × Held) → Type 0
HoldsField limits order end before at bytes None = IsNotRead (field_read limits order end before at (drop at bytes))
HoldsField limits order end before at bytes (Some f) =
    (is_known f.0 && has_code f.0 before ≡ false → IsHeldField limits order end before at bytes f.0 f.1)
    × (is_known f.0 && has_code f.0 before ≡ true → IsNotRead (field_read limits order end before at (drop at bytes)))
