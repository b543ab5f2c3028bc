-- The rules that JSON has to keep to spell a message, in the order in which they are looked at, and
-- what shows that the first of them is broken.
-- RFC 8259, section 4, of the messages of the D-Bus Specification, "Message Format".
use Rattle.std.specs.Prelude.{◌≡◌, ◌≤◌, ◌<◌, suc, ℕ, List, ◌++◌, ◌∷◌, length, true, false, if◌then◌else◌, ◌==◌, ◌||◌, Bool, Some, None, codes}
use Rattle.std.specs.List.{AllZip, list_any}
use Rattle.std.specs.Str.{bytes_eq}
use Rattle.json.specs.Find.{get}
use Rattle.json.specs.Json.{Json, number, string, object, Members}
use Rattle.json.specs.Strict.{keys}
use Rattle.json.specs.Tree.{members_tokens}
use Rattle.dbus_texts.specs.Types.{OBJECT_PATH, SIGNATURE, TextType}
use Rattle.dbus_texts.specs.declared.text_kind.TextKind.{TextKind}
use Rattle.dbus_texts.specs.declared.text_kind.TextKind.TheVariants as kinds
use Rattle.dbus_value_model.specs.declared.order.Order.{Order}
use Rattle.dbus_value_model.specs.Values.{ValueTree}
use Rattle.dbus_value_model.specs.WantedTexts.{Of}
use Rattle.dbus_message_model.specs.Messages.{FieldTree, Want, OfType, Name, Serial, is_known, want}
use Rattle.dbus_show.specs.ShownMessages.{field_name}
use Rattle.dbus_json.specs.declared.integers.Integers.TheVariants.{Exact}
use Rattle.dbus_json_reader.specs.JsonMembers.{SpellsKind}
use Rattle.dbus_json_reader.specs.JsonMessages.{SpellsOrder, SpellsOr, field_members, is_among, named_values}
use Rattle.dbus_json_reader.specs.JsonNames.{AreNamed, IsNameFault, message_names}
use Rattle.dbus_json_reader.specs.JsonParts.{IsFieldValue, IsKnownField}
use Rattle.dbus_json_reader.specs.declared.reasons.JsonReason.{JsonReason}
use Rattle.dbus_json_reader.specs.declared.reasons.JsonReason.TheVariants as reason

-- ---- reasons

-- the text of a number has a point or an exponent
abbrev pub has_fraction : (text : List ℕ) → Bool
has_fraction text = list_any (λ b. b == 46 || b == 101 || b == 69) text

-- why a number is not wanted: it has one of these or a minus before 0; or `past`, of an integer
abbrev pub integer_reason : (past : JsonReason) → (text : List ℕ) → JsonReason
integer_reason past text = if bytes_eq text (codes "-0") || has_fraction text then reason.NotInteger else past

-- why a value is no unsigned number that is wanted
abbrev pub unsigned_reason : (past : JsonReason) → Json → JsonReason
unsigned_reason past (number text) = integer_reason past text
unsigned_reason past other = reason.Form

-- why a value is no byte order, or no message type
abbrev pub order_reason : Json → JsonReason
order_reason (string text) = reason.Order
order_reason other = reason.Form

abbrev pub kind_reason : Json → JsonReason
kind_reason (string text) = reason.Kind
kind_reason other = unsigned_reason reason.Range other

-- why a text is none of a kind, and why a value is no string of one
abbrev pub text_reason : TextKind → JsonReason
text_reason kinds.Path = reason.Path
text_reason kinds.Signature = reason.Signature
text_reason kinds.Interface = reason.Interface
text_reason kinds.Member = reason.Member
text_reason kinds.ErrorName = reason.ErrorName
text_reason kinds.BusName = reason.BusName
text_reason other = reason.Text

abbrev pub string_reason : TextKind → Json → JsonReason
string_reason kind (string text) = text_reason kind
string_reason kind other = reason.Form

-- why a value is no serial
abbrev pub serial_reason : Json → JsonReason
serial_reason (number text) = if bytes_eq text (codes "0") then reason.ZeroSerial else integer_reason reason.Range text
serial_reason other = reason.Form

-- why a value is none that is wanted of a known field
abbrev pub field_reason : Want → Json → JsonReason
field_reason (OfType (TextType OBJECT_PATH)) j = string_reason kinds.Path j
field_reason (OfType (TextType SIGNATURE)) j = string_reason kinds.Signature j
field_reason (Name (Of kind)) j = string_reason kind j
field_reason Serial j = serial_reason j
field_reason other j = unsigned_reason reason.Range j

-- ---- places

-- Of the members of this name the last one has this value, before which so many tokens stand: the
-- object's brace, those of the members `front`, whose count has one of a brace too, and the name.
pub record IsToldAt (name : List ℕ) (j value : Json) (at : ℕ) : Type 0 where
  pub ms : Members
  pub is : j ≡ object ms
  pub front : Members
  pub rest : Members
  pub parts : named_values ms ≡ named_values front ++ (name, value) ∷ named_values rest
  pub last : is_among (keys rest) name ≡ false
  pub before : at ≡ suc (length (members_tokens front))

-- the last member of this name shows this reason
abbrev pub ValueShows : (name : List ℕ) → (reason_of : Json → JsonReason) → Json → JsonReason → ℕ → Type 0
ValueShows name reason_of j why at = (value : Json) × IsToldAt name j value at × (why ≡ reason_of value)

-- ---- rules

abbrev pub HasOrder : Json → Type 0
HasOrder j = (order : Order) × SpellsOrder order (get (codes "order") j)

abbrev pub HasKind : Json → Type 0
HasKind j = (type : Json) × (get (codes "type") j ≡ Some type) × (kind : ℕ) × (kind < 256) × SpellsKind kind type

-- there is no member of this name, or it is a number up to this one
abbrev pub HasNumber : (name : List ℕ) → (most : ℕ) → Json → Type 0
HasNumber name most j = (n : ℕ) × (n ≤ most) × SpellsOr 0 n (get name j)

-- the first of the members that a message begins with that is not as it has to be
pub data IsHeadFault (j : Json) (why : JsonReason) (at : ℕ) : Type 0 where
  order : (HasOrder j → ⊥) → ValueShows (codes "order") order_reason j why at → IsHeadFault j why at
  no_type : HasOrder j → get (codes "type") j ≡ None → why ≡ reason.TypeMissing → at ≡ 0 → IsHeadFault j why at
  kind : HasOrder j → (HasKind j → ⊥) → ValueShows (codes "type") kind_reason j why at → IsHeadFault j why at
  flags : HasOrder j → HasKind j → (HasNumber (codes "flags") 255 j → ⊥) → ValueShows (codes "flags") (unsigned_reason reason.Range) j why at → IsHeadFault j why at
  serial : HasOrder j → HasKind j → HasNumber (codes "flags") 255 j → (HasNumber (codes "serial") 4294967295 j → ⊥)
      → ValueShows (codes "serial") (unsigned_reason reason.Range) j why at → IsHeadFault j why at

abbrev pub HasHead : Json → Type 0
HasHead j = HasOrder j × HasKind j × HasNumber (codes "flags") 255 j × HasNumber (codes "serial") 4294967295 j

-- Each of the members that are known fields is one. None opens a container or holds an integer of
-- 64 bits, so it is so at any depth and however integers are spelled.
abbrev pub HaveFields : Members → Type 0
HaveFields ms = (fs : List FieldTree) × AllZip (IsKnownField Exact 0) fs (field_members ms)

-- the value of the first of them that is none shows why
pub record IsFieldFault (ms : Members) (why : JsonReason) (at : ℕ) : Type 0 where
  pub front : Members
  pub name : List ℕ
  pub value : Json
  pub rest : Members
  pub parts : named_values ms ≡ named_values front ++ (name, value) ∷ named_values rest
  pub kept : HaveFields front
  pub code : ℕ
  pub known : is_known code ≡ true
  pub named : name ≡ field_name code
  pub broken : (v : ValueTree) → IsFieldValue Exact 0 (want code) v value → ⊥
  pub shown : why ≡ field_reason (want code) value
  pub before : at ≡ suc (length (members_tokens front))

-- What shows that JSON spells no message: that it is no object; or else the first of these rules that
-- is broken: the names of its members, the members that a message begins with, and the values of
-- the known fields. Which rule that comes after these is broken is left open.
pub data IsMessageFault (j : Json) (why : JsonReason) (at : ℕ) : Type 0 where
  no_object : ((ms : Members) → j ≡ object ms → ⊥) → why ≡ reason.Form → at ≡ 0 → IsMessageFault j why at
  misnamed : (ms : Members) → j ≡ object ms → IsNameFault message_names ms why at → IsMessageFault j why at
  head : (ms : Members) → j ≡ object ms → AreNamed message_names ms → IsHeadFault j why at → IsMessageFault j why at
  field : (ms : Members) → j ≡ object ms → AreNamed message_names ms → HasHead j → IsFieldFault ms why at → IsMessageFault j why at
  later : (ms : Members) → j ≡ object ms → AreNamed message_names ms → HasHead j → HaveFields ms → IsMessageFault j why at
