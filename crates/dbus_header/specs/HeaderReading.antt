-- Reading a message in the parts in which the code validates and checks it: the same answers as the
-- relations of MessageItems give, computed, plain and slow. It is the bridge from the relations to
-- the code. D-Bus Specification, "Message Format", "Header Fields".
use Rattle.std.specs.Prelude.{ℕ, ◌+◌, ◌-◌, [], ◌∷◌, if◌then◌else◌, nat_eq, List, Option}
use Rattle.dbus_texts.specs.Types.{UINT32, STRING, TypeTree, TypeTrees}
use Rattle.dbus_value_model.specs.declared.limits.Bounds.{Bounds}
use Rattle.dbus_value_model.specs.declared.order.Order.{Order}
use Rattle.dbus_value_model.specs.declared.order.Order.TheVariants.{Little, Big}
use Rattle.dbus_value_model.specs.Values.{ValueTree, ValueTrees, NumberValue, TextValue}
use Rattle.dbus_value_model.specs.Items.{fault, no_row}
use Rattle.dbus_value_model.specs.Reading.{Reader, Outcome, Done, Faulty, Partial, ◌>>=◌, ◌>>◌, pure, ends, padding, number, text, nul, opened, value, fields, validate, bounded, signature, contents}
use Rattle.dbus_message_model.specs.Messages.{Want, Anything, OfType, Name, Serial, FieldTree, MessageTree, want, lacks, required, body_signature, body_fds}
use Rattle.dbus_value_model.specs.declared.fault.Reason.TheVariants as reasons
use Rattle.dbus_texts.specs.ComputedKinds.{types_spelled}
use Rattle.dbus_value_model.specs.Bounds.{bounds_of, bounds_with}
use Rattle.dbus_value_model.specs.declared.limits.Limits.{Limits}
use Rattle.dbus_value_model.specs.ValueItems.{text_row}
use Rattle.dbus_value_model.specs.WantedTexts.{WantedText}
use Rattle.dbus_header.specs.MessageItems.{not_zero_row, name_row, version_row, fields_row, code_row, kind_wanted}
use Rattle.dbus_header.specs.declared.fixed_header.FixedHeader.{FixedHeader}

-- Reading the parts of a message that MessageItems gives names, from left to right.

abbrev pub opening : ℕ → Reader ℕ
opening depth_left = opened depth_left (pure (depth_left - 1))

abbrev pub value_wanted : Bounds → Order → ℕ → ℕ → Want → TypeTree → Reader ValueTree
value_wanted bounds order depth_left end Anything t = value bounds order depth_left end t
value_wanted bounds order depth_left end (OfType u) t = value bounds order depth_left end t
value_wanted bounds order depth_left end (Name k) t = do
  padding 4 end
  n ← number order 4 end (name_row end)
  name ← text k n
  nul
  pure (TextValue STRING name)
value_wanted bounds order depth_left end Serial t = do
  padding 4 end
  n ← number order 4 end (not_zero_row reasons.ZeroSerial)
  pure (NumberValue UINT32 n)

abbrev pub order_of : ℕ → Outcome Order → Outcome Order → Outcome Order → Outcome Order
order_of b little big other = if nat_eq b 108 then little else if nat_eq b 66 then big else other

unfoldable pub byte_order : Reader Order
byte_order o [] = Partial
byte_order o (b ∷ s) = order_of b (Done Little (o + 1) s) (Done Big (o + 1) s) (Faulty (fault o reasons.ByteOrder))

abbrev pub body_items : Bounds → Order → ℕ → TypeTrees → ℕ → Reader ValueTrees
body_items bounds order depth_left ts end = do
  xs ← fields (value bounds order depth_left end) ts
  ends end
  pure xs

-- the items that have fixed places
unfoldable pub fixed_header : Limits → Reader FixedHeader
fixed_header limits = do
  order ← byte_order
  kind ← number order 1 16 (not_zero_row reasons.Kind)
  flags ← number order 1 16 no_row
  number order 1 16 version_row
  body ← number order 4 16 no_row
  serial ← number order 4 16 (not_zero_row reasons.ZeroSerial)
  opening limits.depth
  n ← number order 4 16 (fields_row limits body)
  pure (record { order = order; kind = kind; flags = flags; body = body; serial = serial; fields = n })

-- the signature of a field's variant
unfoldable pub wanted_signature : Order → ℕ → WantedText → Reader TypeTree
wanted_signature order end k = do
  n ← number order 1 end (text_row end)
  held ← signature k n
  nul
  pure held

-- the signature and the value of a field, which stands in the field array, a struct and a variant
unfoldable pub wanted_value : Limits → Order → ℕ → Want → Reader ValueTree
wanted_value limits order end w = do
  held ← wanted_signature order end (kind_wanted w)
  value_wanted (bounds_of limits) order (limits.depth - 3) end w held

unfoldable pub field_read : Limits → Order → ℕ → List FieldTree → Reader FieldTree
field_read limits order end before = do
  padding 8 end
  opening (limits.depth - 1)
  code ← number order 1 end (code_row before)
  opening (limits.depth - 2)
  x ← wanted_value limits order end (want code)
  pure (record { code = code; value = x })

unfoldable pub fields_read : Limits → Order → ℕ → Reader (List FieldTree)
fields_read limits order n = contents n (field_read limits order)

unfoldable pub body_read : Limits → Option ℕ → Order → TypeTrees → ℕ → Reader ValueTrees
body_read limits fds order ts end = body_items (bounds_with limits fds) order limits.depth ts end

unfoldable pub message_read : Limits → Reader (Order × MessageTree)
message_read limits = do
  h ← fixed_header limits
  fs ← fields_read limits h.order h.fields
  validate (lacks (required h.kind) fs)
  bounded 8 (padding 8)
  xs ← bounded h.body (body_read limits (body_fds limits fs) h.order (types_spelled (body_signature fs)))
  pure (h.order, record { kind = h.kind; flags = h.flags; serial = h.serial; fields = fs; body = xs })
