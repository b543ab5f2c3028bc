-- A message as a line of JSON: an object, and a line feed after it.
-- RFC 8259, of the messages of the D-Bus Specification, "Message Format" and "Header Fields".
use Rattle.std.specs.Prelude.{◌≡◌, ℕ, List, [], ◌∷◌, ◌++◌, Bool, true, false, not, suc, length, drop, option_map, codes, decimal}
use Rattle.std.specs.List.{list_any}
use Rattle.std.specs.Option.{unwrap_or}
use Rattle.dbus_texts.specs.Types.{sig}
use Rattle.dbus_value_model.specs.declared.order.Order.{Order}
use Rattle.dbus_value_model.specs.Values.{ValueTree, type_of}
use Rattle.dbus_message_model.specs.Messages.{FieldTree, MessageTree, order_byte, message_bytes, is_known}
use Rattle.dbus_message_model.specs.MessageTypes.{type_name}
use Rattle.dbus_show.specs.ShownMessages.{field_name, line_feeds}
use Rattle.dbus_value_text.specs.Forms.{AreFieldTexts, taken_fields, led}
use Rattle.dbus_validate.specs.declared.validating.Validated.{Validated}
use Rattle.dbus_json.specs.Times.{time_members}
use Rattle.dbus_json.specs.declared.integers.Integers.{Integers}
use Rattle.dbus_json.specs.declared.integers.Integers.TheVariants.{Exact}
use Rattle.dbus_json.specs.declared.place.LinePlace.{LinePlace}
use Rattle.dbus_json.specs.JsonValues.{plain, array, member, object, IsJson, AreJson, listed}

-- a message type's name, or its number if it has none
abbrev pub type_text : ℕ → List ℕ
type_text kind = unwrap_or (option_map plain (type_name kind)) (decimal kind)

-- a known header field with this code and value is a member by its name
pub record IsKnown (integers : Integers) (code : ℕ) (v : ValueTree) (text : List ℕ) : Type 0 where
  pub value : List ℕ
  pub json : IsJson integers v value
  pub is : text ≡ member (field_name code) value

-- the place of a field that is not known, if a known one stands after it: so a line keeps how the
-- two are mixed
abbrev pub place_members : (before_known : Bool) → (place : ℕ) → List (List ℕ)
place_members true place = member (codes "place") (decimal place) ∷ []
place_members false place = []

-- a header field that is not known, with this code and value, is an object of its code, and of its
-- value with the signature of that
pub record IsOther (integers : Integers) (before_known : Bool) (place code : ℕ) (v : ValueTree) (text : List ℕ) : Type 0 where
  pub value : List ℕ
  pub json : IsJson integers v value
  pub is : text ≡ object
      (member (codes "code") (decimal code) ∷ member (codes "type") (plain (sig (type_of v))) ∷ member (codes "value") value ∷ place_members before_known place)

-- the fields that are known, in their order, each after its place among all, counted from 0
abbrev pub known_fields : List FieldTree → List (ℕ × FieldTree)
known_fields fs = taken_fields is_known fs

-- the fields that are not known
abbrev pub other_fields : List FieldTree → List (ℕ × FieldTree)
other_fields fs = taken_fields (λ code. not (is_known code)) fs

-- whether a known field stands after this place
abbrev pub is_before_known : List FieldTree → (place : ℕ) → Bool
is_before_known fs place = list_any (λ f. is_known f.code) (drop (suc place) fs)

-- the known fields of a message, and the text of each
abbrev pub AreKnown : Integers → List FieldTree → List (List ℕ) → Type 0
AreKnown integers fs texts = AreFieldTexts (λ _ code v text. IsKnown integers code v text) (known_fields fs) texts

-- its other fields, and the text of each
abbrev pub AreOthers : Integers → List FieldTree → List (List ℕ) → Type 0
AreOthers integers fs texts = AreFieldTexts (λ place code v text. IsOther integers (is_before_known fs place) place code v text) (other_fields fs) texts

-- the byte order and the message type
abbrev pub front_members : Order → (kind : ℕ) → List (List ℕ)
front_members order kind =
    member (codes "order") (plain (order_byte order ∷ []))
    ∷ member (codes "type") (type_text kind)
    ∷ []

-- and the flags and the serial
abbrev pub head_members : Order → (kind flags serial : ℕ) → List (List ℕ)
head_members order kind flags serial =
    member (codes "order") (plain (order_byte order ∷ []))
    ∷ member (codes "type") (type_text kind)
    ∷ member (codes "flags") (decimal flags)
    ∷ member (codes "serial") (decimal serial)
    ∷ []

-- the texts of header fields: of the known ones, and of the others
abbrev pub AreFields : Integers → List FieldTree → (known others : List (List ℕ)) → Type 0
AreFields integers fs known others = AreKnown integers fs known × AreOthers integers fs others

-- A header as an object: its fields are as in a line in which each integer is a number.
pub record IsJsonHeader (order : Order) (kind flags serial : ℕ) (fs : List FieldTree) (text : List ℕ) : Type 0 where
  pub known : List (List ℕ)
  pub others : List (List ℕ)
  pub fields : AreFields Exact fs known others
  pub is : text ≡ object (head_members order kind flags serial ++ (known ++ (member (codes "fields") (array others) ∷ [])))

-- what stands before the header fields, of a message of so many bytes
abbrev pub first_members : LinePlace → Order → (size kind flags serial : ℕ) → List (List ℕ)
first_members place order size kind flags serial =
    member (codes "number") (decimal place.number)
    ∷ member (codes "offset") (decimal place.offset)
    ∷ (time_members place.time
    ++ (member (codes "length") (decimal size) ∷ head_members order kind flags serial))

-- The line of a message that has this place: the known fields are members of the object, and all
-- other fields, and the values of the body, stand in two arrays.
pub record IsJsonLine (integers : Integers) (order : Order) (m : MessageTree) (place : LinePlace) (text : List ℕ) : Type 0 where
  pub known : List (List ℕ)
  pub knows : AreKnown integers m.fields known
  pub others : List (List ℕ)
  pub other : AreOthers integers m.fields others
  pub values : List (List ℕ)
  pub body : AreJson integers m.body values
  pub is : text ≡ object
      (first_members place order (length (message_bytes order m)) m.kind m.flags m.serial
      ++ (known ++ (member (codes "fields") (array others) ∷ member (codes "body") (array values) ∷ [])))
      ++ codes "\n"

-- How a line begins, and how the object of a field that is not known ends.

-- what stands before the header fields
abbrev pub start_text : Validated → LinePlace → List ℕ
start_text j place = codes "{" ++ listed (first_members place j.order j.length j.kind j.flags j.serial)

-- the header fields, each after a comma
abbrev pub fields_text : (known others : List (List ℕ)) → List ℕ
fields_text known others = led (codes ",") (codes ",") known ++ (codes ",\"fields\":[" ++ (led [] (codes ",") others ++ codes "]"))

-- what stands behind the value of such a field
abbrev pub end_text : (before_known : Bool) → (place : ℕ) → List ℕ
end_text before_known place = led (codes ",") (codes ",") (place_members before_known place) ++ codes "}"

-- Each message has a line of JSON, and its one line feed ends it.

-- Whatever a message holds, its JSON is one line.
abbrev pub IsOneLineEach : Type 0
IsOneLineEach = (integers : Integers) (order : Order) (m : MessageTree) (place : LinePlace) (text : List ℕ) → IsJsonLine integers order m place text → (line : List ℕ) × (text ≡ line ++ codes "\n") × (line_feeds line ≡ 0)

-- Each message has a line of JSON, whatever its place.
abbrev pub IsSomeLineEach : Type 0
IsSomeLineEach = (integers : Integers) (order : Order) (m : MessageTree) (place : LinePlace) → (text : List ℕ) × IsJsonLine integers order m place text
