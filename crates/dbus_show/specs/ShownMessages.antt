-- The text of a message: a line for its header, and after two spaces a line for each value of its
-- body. The names are those of the D-Bus Specification, "Message Format" and "Header Fields", in
-- lower case.
use Rattle.std.specs.Prelude.{ℕ, List, [], ◌∷◌, ◌++◌, codes, decimal, nat_eq, if◌then◌else◌, ◌≡◌, ◌==◌, ◌+◌, length}
use Rattle.std.specs.List.{concat, flat_map, count_by}
use Rattle.std.specs.Option.{unwrap_or}
use Rattle.hex.specs.Hex.{encode_lower}
use Rattle.dbus_texts.specs.Types.{UINT32}
use Rattle.dbus_value_model.specs.declared.order.Order.{Order}
use Rattle.dbus_value_model.specs.Values.{ValueTree, NumberValue, TextValue}
use Rattle.dbus_message_model.specs.Messages.{FieldTree, MessageTree, order_byte, is_known, IsValidMessage}
use Rattle.dbus_message_model.specs.MessageTypes.{type_name}
use Rattle.dbus_value_model.specs.declared.limits.Limits.{Limits}
use Rattle.dbus_show.specs.ShownValues.{value_text, value_texts}

-- a message type's name, or `kind` and its number where it has none
abbrev pub kind_text : ℕ → List ℕ
kind_text kind = unwrap_or (type_name kind) (codes "kind" ++ decimal kind)

-- a field's name, or `field` and its code where it has none
abbrev pub field_name : ℕ → List ℕ
field_name code =
    if nat_eq code 1 then codes "path" else if nat_eq code 2 then codes "interface"
    else if nat_eq code 3 then codes "member" else if nat_eq code 4 then codes "error_name"
    else if nat_eq code 5 then codes "reply_serial" else if nat_eq code 6 then codes "destination"
    else if nat_eq code 7 then codes "sender" else if nat_eq code 8 then codes "signature"
    else if nat_eq code 9 then codes "unix_fds" else codes "field" ++ decimal code

-- A known field's value, which is a text or a UINT32, stands alone. A value of another type, which
-- no known field of a message has, is shown as any value is.
abbrev pub bare : ValueTree → List ℕ
bare (TextValue k t) = t
bare (NumberValue UINT32 n) = decimal n
bare v = value_text v

abbrev pub field_value : FieldTree → List ℕ
field_value f = if is_known f.code then bare f.value else value_text f.value

abbrev pub field_text : FieldTree → List ℕ
field_text f = codes " " ++ (field_name f.code ++ (codes "=" ++ field_value f))

-- the header's line as far as the message type
abbrev pub front_text : Order → (kind number : ℕ) → List ℕ
front_text order kind number = concat (codes "#" ∷ decimal number ∷ codes " " ∷ (order_byte order ∷ []) ∷ codes " " ∷ kind_text kind ∷ [])

-- the header's line as far as its fields
abbrev pub start_text : Order → (kind serial flags : ℕ) → (number : ℕ) → List ℕ
start_text order kind serial flags number = concat
    (codes "#" ∷ decimal number ∷ codes " " ∷ (order_byte order ∷ []) ∷ codes " " ∷ kind_text kind ∷ codes " serial=" ∷ decimal serial
    ∷ codes " flags=" ∷ encode_lower (flags ∷ []) ∷ [])

abbrev pub header_line : Order → MessageTree → ℕ → List ℕ
header_line order m number = start_text order m.kind m.serial m.flags number ++ (flat_map field_text m.fields ++ codes "\n")

abbrev pub body_line : List ℕ → List ℕ
body_line text = concat (codes "  " ∷ text ∷ codes "\n" ∷ [])

abbrev pub message_text : Order → MessageTree → ℕ → List ℕ
message_text order m number = header_line order m number ++ flat_map body_line (value_texts m.body)

-- Which line feeds the text of a message has: those that end its lines, and none within a value.

-- how many bytes of a text are line feeds
abbrev pub line_feeds : List ℕ → ℕ
line_feeds text = count_by (λ b. b == 10) text

-- Whatever a value holds, its text is one line.
abbrev pub NoneInValues : Type 0
NoneInValues = (v : ValueTree) → line_feeds (value_text v) ≡ 0

-- A message's text has a line for its header and one for each value of its body, so that no value
-- can pass for a line.
abbrev pub OneForEachLine : Type 0
OneForEachLine = (limits : Limits) (order : Order) (m : MessageTree) (number : ℕ) → IsValidMessage limits m → line_feeds (message_text order m number) ≡ 1 + length (value_texts m.body)
