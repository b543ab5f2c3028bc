-- The parts of a message that is to be built, whose texts and body are anywhere, and which messages
-- have them. D-Bus Specification, "Message Format" and "Header Fields".
use Rattle.std.specs.Prelude.{◌≡◌, ℕ, List, [], ◌∷◌, ◌++◌, Bool, true, ◌&&◌, nat_eq, if◌then◌else◌, Option, Some, None, MatchOption}
use Rattle.std.specs.Borrow.{Bor}
use Rattle.std.specs.List.{flat_map}
use Rattle.dbus_texts.specs.Types.{TextCode, STRING, OBJECT_PATH, SIGNATURE, UINT32}
use Rattle.dbus_value_model.specs.Values.{NumberValue, TextValue}
use Rattle.dbus_message_model.specs.Messages.{FieldTree, MessageTree, body_bytes, fd_count, has_code, is_known}
use Rattle.dbus_value_model.specs.declared.limits.Limits.{Limits}
use Rattle.dbus_value_model.specs.declared.order.Order.{Order}
use Rattle.dbus_validate.specs.Validating.{IsValidated}
use Rattle.dbus_validate.specs.declared.validating.Validated.{Validated}
use Rattle.dbus_c_build.specs.declared.draft.Draft.{Draft}
use Rattle.dbus_c_build.specs.declared.given.Given.{Given}

-- the text of a field by its code, and the body under 0
abbrev pub text_of : ℕ → Draft → Option (Bor (List ℕ))
text_of code p =
    if nat_eq code 0 then Some p.body else if nat_eq code 1 then p.path else if nat_eq code 2 then p.interface
    else if nat_eq code 3 then p.member else if nat_eq code 4 then p.error_name else if nat_eq code 6 then p.destination
    else if nat_eq code 7 then p.sender else if nat_eq code 8 then p.signature else None

-- the number of a field by its code, or 0
abbrev pub number_of : ℕ → Draft → ℕ
number_of code p = if nat_eq code 5 then p.reply_serial else if nat_eq code 9 then p.unix_fds else 0

-- ---- fields

-- the code of the type of the text in a field
abbrev pub text_code : ℕ → TextCode
text_code code = if nat_eq code 1 then OBJECT_PATH else if nat_eq code 8 then SIGNATURE else STRING

abbrev pub text_value : (code : ℕ) → List ℕ → FieldTree
text_value code t = record { code = code; value = TextValue (text_code code) t }

abbrev pub number_value : (code number : ℕ) → FieldTree
number_value code n = record { code = code; value = NumberValue UINT32 n }

-- the field of a number, if it is not 0
abbrev pub number_field : (code number : ℕ) → List FieldTree
number_field code n = if nat_eq n 0 then [] else number_value code n ∷ []

-- the field of a text, if there is one, or else of a number
abbrev pub field_of : (code : ℕ) → Option (Bor (List ℕ)) → (number : ℕ) → List FieldTree
field_of code (Some t) n = text_value code t.now ∷ []
field_of code None n = number_field code n

-- the field of a known code that the parts have, if they have one
abbrev pub field_given : Draft → (code : ℕ) → List FieldTree
field_given p code = field_of code (text_of code p) (number_of code p)

-- Whether a field of a message stays as it is: it does if its code is unknown, or if it is the
-- UNIX_FDS, which may be 0, of the number that the parts have.
abbrev pub stays : Draft → (kept : List FieldTree) → (code : ℕ) → Bool
stays p kept code = if is_known code then nat_eq code 9 && nat_eq p.unix_fds (fd_count kept) else true

-- what comes in the place of a field of a message
abbrev pub in_place : Draft → (kept : List FieldTree) → FieldTree → List FieldTree
in_place p kept f = if stays p kept f.code then f ∷ [] else field_given p f.code

-- the field of a code that the message does not have
abbrev pub added : Draft → (kept : List FieldTree) → (code : ℕ) → List FieldTree
added p kept code = if has_code code kept then [] else field_given p code

abbrev pub known_codes : List ℕ
known_codes = 1 ∷ (2 ∷ (3 ∷ (4 ∷ (5 ∷ (6 ∷ (7 ∷ (8 ∷ (9 ∷ []))))))))

-- The fields of a message that has these parts, if it keeps the fields of another, or none: each of
-- these in its place, changed as the parts say, and then those that it did not have, in the order
-- of their codes.
abbrev pub fields_after : Draft → (kept : List FieldTree) → List FieldTree
fields_after p kept = flat_map (in_place p kept) kept ++ flat_map (added p kept) known_codes

-- the message has exactly these parts beside what it keeps: no other field, and a body that these
-- bytes spell
pub record HasParts (kept : List FieldTree) (p : Draft) (m : MessageTree) : Type 0 where
  pub numbers : (m.kind ≡ p.kind) × (m.flags ≡ p.flags) × (m.serial ≡ p.serial)
  pub fields : m.fields ≡ fields_after p kept
  pub body : body_bytes p.order m ≡ p.body.now

-- The header fields that a message keeps of another one.
-- D-Bus Specification, "Header Fields".

-- a message that the bytes begin with was validated; it is in this order, and these are its fields
pub record IsKept (limits : Limits) (b : List ℕ) (order : Order) (j : Validated) (fs : List FieldTree) : Type 0 where
  pub first : IsValidated limits b j
  pub order_is : j.order ≡ order
  pub fields : fs ≡ first.message.fields

-- these are the fields that are kept, or none
abbrev pub AreKept : Given → Order → List FieldTree → Type 0
AreKept g order fs = MatchOption g.kept (fs ≡ []) (λ j. IsKept g.limits g.bytes.now order j fs)
