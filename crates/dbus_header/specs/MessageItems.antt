-- Trusted by the headline.
-- The items of a message, in their order, and so its faults: the fixed header, the header fields,
-- their padding, the body. D-Bus Specification, "Message Format" and "Header Fields";
-- docs/WIRE-FORMAT.md, "Messages" and "Faults".
use Rattle.std.specs.Prelude.{◌≡◌, ℕ, ◌+◌, ◌-◌, List, ◌∷◌, false, ◌&&◌, if◌then◌else◌, nat_lt, nat_eq, Option, Some, None}
use Rattle.dbus_texts.specs.Types.{UINT32, STRING, TypeTree, NumberType, TextType, TypeTrees, sig, sigs, AreShaped}
use Rattle.dbus_value_model.specs.declared.limits.Limits.{Limits}
use Rattle.dbus_value_model.specs.declared.limits.Bounds.{Bounds}
use Rattle.dbus_value_model.specs.Bounds.{bounds_of, bounds_with}
use Rattle.dbus_value_model.specs.WantedTexts.{WantedText, Of, Only}
use Rattle.dbus_value_model.specs.declared.order.Order.{Order}
use Rattle.dbus_value_model.specs.Bytes.{gap_to}
use Rattle.dbus_value_model.specs.Values.{ValueTree, ValueTrees, NumberValue, TextValue}
use Rattle.dbus_value_model.specs.Spelling.{Spelled}
use Rattle.dbus_value_model.specs.Items.{Item, ◌>>=◌, ◌>>◌, pure, validate, bounded, ends, padding, number, text, nul, signature, contents, fault, no_row}
use Rattle.dbus_value_model.specs.declared.fault.Reason.{Reason}
use Rattle.dbus_value_model.specs.ValueItems.{text_row, opened, value, fields}
use Rattle.dbus_message_model.specs.Messages.{FieldTree, MessageTree, order_byte, field_type, field_struct, Want, Anything, OfType, Name, Serial, want, is_known, has_code, IsField, lacks, required, body_signature, body_fds}
use Rattle.dbus_value_model.specs.declared.fault.Reason.TheVariants as reasons
use Rattle.dbus_header.specs.declared.fixed_header.FixedHeader.{FixedHeader}
use Rattle.dbus_texts.specs.declared.text_kind.TextKind.TheVariants as kinds

abbrev pub not_zero_row : Reason → ℕ → ℕ → Option Reason
not_zero_row why p n = if nat_eq n 0 then Some why else None

abbrev pub version_row : ℕ → ℕ → Option Reason
version_row p n = if nat_eq n 1 then None else Some reasons.Version

abbrev pub name_row : ℕ → ℕ → ℕ → Option Reason
name_row end p n = if nat_lt 255 n then Some reasons.NameTooLong else text_row end p n

abbrev pub fields_row : Limits → ℕ → ℕ → ℕ → Option Reason
fields_row limits body p n =
    if nat_lt limits.array n then Some reasons.ArrayTooLong
    else if nat_lt limits.message (p + n + gap_to 8 (p + n) + body) then Some reasons.MessageTooLong else None

abbrev pub code_row : List FieldTree → ℕ → ℕ → Option Reason
code_row before p n =
    if nat_eq n 0 then Some reasons.FieldCode else if is_known n && has_code n before then Some reasons.FieldTwice else None

-- A container is opened, which has no bytes: how many more may be opened within it.
abbrev pub opening : ℕ → Item ℕ
opening depth_left = opened depth_left (pure (depth_left - 1))

-- ---- a field

-- the signatures that a field's variant may have
abbrev pub kind_wanted : Want → WantedText
kind_wanted Anything = (Of kinds.Single)
kind_wanted (OfType t) = Only (sig t)
kind_wanted (Name k) = Only (sig (TextType STRING))
kind_wanted Serial = Only (sig (NumberType UINT32))

abbrev pub value_wanted : Bounds → Order → ℕ → ℕ → Want → TypeTree → Item ValueTree
value_wanted bounds order depth_left end Anything t = value bounds order depth_left end t
value_wanted bounds order depth_left end (OfType u) t = value bounds order depth_left end t
value_wanted bounds order depth_left end (Name k) t = do
  padding 4 end
  n ← number order 4 end (name_row end)
  name ← text k n
  nul
  pure (TextValue STRING name)
value_wanted bounds order depth_left end Serial t = do
  padding 4 end
  n ← number order 4 end (not_zero_row reasons.ZeroSerial)
  pure (NumberValue UINT32 n)

-- the signature of a field's variant
abbrev pub signature_wanted : Order → ℕ → WantedText → Item TypeTree
signature_wanted order end k = do
  n ← number order 1 end (text_row end)
  held ← signature k n
  nul
  pure held

-- the signature and the value that are wanted of a field
abbrev pub signed_value : Bounds → Order → ℕ → ℕ → Want → Item ValueTree
signed_value bounds order depth_left end w = do
  held ← signature_wanted order end (kind_wanted w)
  value_wanted bounds order depth_left end w held

-- a struct of the code and a variant, where so many containers may be opened
abbrev pub field_items : Bounds → Order → ℕ → ℕ → List FieldTree → Item FieldTree
field_items bounds order depth_left end before = do
  padding 8 end
  within ← opening depth_left
  code ← number order 1 end (code_row before)
  inner ← opening within
  x ← signed_value bounds order inner end (want code)
  pure (record { code = code; value = x })

-- a field is passed where it is spelled, whole, and is one after those before it
abbrev pub field : Bounds → Order → ℕ → ℕ → List FieldTree → Item FieldTree
field bounds order depth_left end before = record {
  Passed = λ o s f q r. Spelled bounds order depth_left end field_type o s (field_struct f) q r × IsField before f;
  Refused = (field_items bounds order depth_left end before).Refused;
}

-- ---- the message

abbrev pub byte_order : Item Order
byte_order = record {
  Passed = λ o s order q r. (s ≡ order_byte order ∷ r) × (q ≡ o + 1);
  Refused = λ o s f. (b : ℕ) × (more : List ℕ) × (s ≡ b ∷ more) × (nat_eq b 108 ≡ false) × (nat_eq b 66 ≡ false) × (f ≡ fault o reasons.ByteOrder);
}

-- the types whose signatures joined are a text
abbrev pub types_of_text : List ℕ → Item TypeTrees
types_of_text text = record {
  Passed = λ o s ts q r. (sigs ts ≡ text) × AreShaped ts × (q ≡ o) × (r ≡ s);
  Refused = λ o s f. ⊥;
}

abbrev pub body_items : Bounds → Order → ℕ → TypeTrees → ℕ → Item ValueTrees
body_items bounds order depth_left ts end = do
  xs ← fields (value bounds order depth_left end) ts
  ends end
  pure xs

-- The items that have fixed places: the first 16 bytes, before whose end there is no other.
abbrev pub fixed_items : Limits → Item FixedHeader
fixed_items limits = do
  order ← byte_order
  kind ← number order 1 16 (not_zero_row reasons.Kind)
  flags ← number order 1 16 no_row
  number order 1 16 version_row
  body ← number order 4 16 no_row
  serial ← number order 4 16 (not_zero_row reasons.ZeroSerial)
  opening limits.depth
  n ← number order 4 16 (fields_row limits body)
  pure (record { order = order; kind = kind; flags = flags; body = body; serial = serial; fields = n })

-- In the padding after the fields there is no end: 8 is far enough.
abbrev pub message_items : Limits → Item (Order × MessageTree)
message_items limits = do
  h ← fixed_items limits
  fs ← contents h.fields (field (bounds_of limits) h.order (limits.depth - 1))
  validate (lacks (required h.kind) fs)
  bounded 8 (padding 8)
  ts ← types_of_text (body_signature fs)
  xs ← bounded h.body (body_items (bounds_with limits (body_fds limits fs)) h.order limits.depth ts)
  pure (h.order, record { kind = h.kind; flags = h.flags; serial = h.serial; fields = fs; body = xs })
