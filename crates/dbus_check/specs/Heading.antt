-- Reading a message on, from its header's fields: of the fields that were read, little is kept.
-- D-Bus Specification, "Message Format", "Header Fields".
use Rattle.std.specs.Prelude.{ℕ, zero, suc, ◌+◌, ◌-◌, List, [], ◌∷◌, Bool, false, ◌||◌, ◌&&◌, if◌then◌else◌, nat_lt, nat_eq, Option, Some, None, true}
use Rattle.dbus_texts.specs.ComputedKinds.{types_spelled}
use Rattle.dbus_value_model.specs.FdIndexes.{index_limit}
use Rattle.dbus_value_model.specs.Bounds.{bounds_with}
use Rattle.dbus_value_model.specs.declared.limits.Limits.{Limits}
use Rattle.dbus_value_model.specs.declared.order.Order.{Order}
use Rattle.dbus_value_model.specs.declared.fault.Reason.{Reason}
use Rattle.dbus_value_model.specs.declared.fault.Reason.TheVariants as reasons
use Rattle.dbus_value_model.specs.Values.{ValueTree}
use Rattle.dbus_value_model.specs.Reading.{Partial, after, padding, number, validate, fields, value, ends, Reader, ◌>>=◌, ◌>>◌, pure}
use Rattle.dbus_message_model.specs.Messages.{want, is_known, required, text_in, number_in, Want, OfType, Serial}
use Rattle.dbus_header.specs.HeaderReading.{opening, wanted_value, message_read}
use Rattle.dbus_value_checker.specs.Suspended.{On, onward, done}
use Rattle.dbus_texts.specs.Types.{UINT32, NumberType}
use Rattle.dbus_value_model.specs.ValueItems.{number_row}
use Rattle.dbus_header.specs.MessageItems.{not_zero_row}

-- whether a code stands among those seen
abbrev pub has : ℕ → List ℕ → Bool
has c [] = false
has c (x ∷ xs) = nat_eq x c || has c xs

-- the rows of a field's code, after fields of these codes
abbrev pub seen_row : List ℕ → ℕ → ℕ → Option Reason
seen_row codes p n =
    if nat_eq n 0 then Some reasons.FieldCode else if is_known n && has n codes then Some reasons.FieldTwice else None

-- the lowest of some codes that is missing
abbrev pub missing : List ℕ → List ℕ → Option Reason
missing [] codes = None
missing (c ∷ cs) codes = if has c codes then missing cs codes else Some (reasons.FieldMissing c)

-- what is kept of the fields that were read: their codes, the body's signature, and how many
-- descriptors come with the message
pub record Kept : Type 0 where
  pub codes : List ℕ
  pub text : List ℕ
  pub count : ℕ

abbrev pub nothing : Kept
nothing = record { codes = []; text = []; count = 0 }

-- the same after one field more
abbrev pub kept_of : Kept → ℕ → ValueTree → Kept
kept_of kept code v = record {
  codes = code ∷ kept.codes;
  text = if has 8 kept.codes then kept.text else if nat_eq code 8 then text_in v else [];
  count = if has 9 kept.codes then kept.count else if nat_eq code 9 then number_in v else 0;
}

-- the body, with the header's word for its length
abbrev pub body_on : Limits → Order → ℕ → Kept → On
body_on limits order body kept o s =
    onward (fields (value (bounds_with limits (index_limit limits.fds kept.count)) order limits.depth (o + body)) (types_spelled kept.text)) (onward (ends (o + body)) done) o s

-- after the fields
abbrev pub after_fields : Limits → Order → ℕ → ℕ → Kept → On
after_fields limits order kind body kept =
    onward (validate (missing (required kind) kept.codes)) (λ o. onward (padding 8 (o + 8)) (body_on limits order body kept) o)

-- after a field's code
abbrev pub field_value_on : Limits → Order → ℕ → Kept → (Kept → On) → ℕ → On
field_value_on limits order end kept more code =
    onward (opening (limits.depth - 2)) (λ o s. after (wanted_value limits order end (want code) o s) (λ v. more (kept_of kept code v)))

-- one field, and then more of them
abbrev pub field_on : Limits → Order → ℕ → Kept → (Kept → On) → On
field_on limits order end kept more =
    onward (padding 8 end) (onward (opening (limits.depth - 1)) (λ o s. after (number order 1 end (seen_row kept.codes) o s) (field_value_on limits order end kept more)))

-- the fields, with at most so many to come
abbrev pub fields_on : Limits → Order → (kind body turns end : ℕ) → Kept → On
fields_on limits order kind body zero end kept o s = if nat_eq o end then after_fields limits order kind body kept o s else Partial
fields_on limits order kind body (suc turns) end kept o s =
    if nat_lt o end then field_on limits order end kept (fields_on limits order kind body turns end) o s
    else if nat_eq o end then after_fields limits order kind body kept o s else Partial

-- a message, from its first byte on
abbrev pub message_on : Limits → On
message_on limits = onward (message_read limits) done

-- The parts of a header's field, each read from its front.
-- D-Bus Specification, "Header Fields".

-- its padding, its struct, its code and its variant, after fields of these codes
unfoldable pub field_code : Limits → Order → ℕ → List ℕ → Reader ℕ
field_code limits order end codes = do
  padding 8 end
  opening (limits.depth - 1)
  code ← number order 1 end (seen_row codes)
  opening (limits.depth - 2)
  pure code

-- a number of four bytes
unfoldable pub padded_number : Order → ℕ → (ℕ → ℕ → Option Reason) → Reader ℕ
padded_number order end row = do
  padding 4 end
  number order 4 end row

-- the rows of a number that is to be a serial, and of any other
abbrev pub uint32_row : Bool → ℕ → ℕ → Option Reason
uint32_row true = not_zero_row reasons.ZeroSerial
uint32_row false = number_row None UINT32

-- what is wanted where it stands
abbrev pub uint32_wanted : Bool → Want
uint32_wanted true = Serial
uint32_wanted false = OfType (NumberType UINT32)

-- what was read is seen in another light
abbrev pub seen_as : {A B : Type 0} → (A → B) → Reader A → Reader B
seen_as g run o s = after (run o s) (λ a. pure (g a))
