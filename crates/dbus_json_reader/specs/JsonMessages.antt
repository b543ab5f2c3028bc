-- Which JSON spells which message: an object, whose members may stand in any order, and of which
-- some may be left out.
-- RFC 8259, section 4, of the messages of the D-Bus Specification, "Message Format" and "Header
-- Fields".
use Rattle.std.specs.Prelude.{◌≡◌, ℕ, List, [], ◌∷◌, Bool, true, false, not, Option, Some, None, filter, codes, decimal}
use Rattle.std.specs.List.{AllZip, list_all, list_any}
use Rattle.std.specs.Str.{bytes_eq}
use Rattle.json.specs.Find.{get}
use Rattle.json.specs.Json.{Json, number, string, array, object, Members, no_members, member}
use Rattle.json.specs.Strict.{AreDistinct, keys}
use Rattle.json.specs.Value.{items_of}
use Rattle.dbus_texts.specs.Types.{sig}
use Rattle.dbus_value_model.specs.declared.limits.Limits.{Limits}
use Rattle.dbus_value_model.specs.declared.order.Order.{Order}
use Rattle.dbus_value_model.specs.declared.order.Order.TheVariants.{Little}
use Rattle.dbus_value_model.specs.Values.{ValueTrees, NoValues, type_of}
use Rattle.dbus_message_model.specs.Messages.{FieldTree, MessageTree, order_byte, IsValidMessage}
use Rattle.dbus_show.specs.ShownMessages.{field_name}
use Rattle.dbus_json.specs.declared.integers.Integers.{Integers}
use Rattle.dbus_json.specs.JsonMessages.{known_fields, other_fields, is_before_known}
use Rattle.dbus_json_reader.specs.JsonMembers.{SpellsKind}
use Rattle.dbus_json_reader.specs.JsonValues.{Spells, AllSpell}

-- ---- members

-- The members of a line that are no header fields. The first four say where the message stood: they
-- may hold anything, and mean nothing.
abbrev pub plain_names : List (List ℕ)
plain_names =
    codes "number" ∷ codes "offset" ∷ codes "time" ∷ codes "length"
    ∷ codes "order" ∷ codes "type" ∷ codes "flags" ∷ codes "serial" ∷ codes "fields" ∷ codes "body" ∷ []

-- those of an object in `fields`
abbrev pub other_names : List (List ℕ)
other_names = codes "code" ∷ codes "type" ∷ codes "value" ∷ codes "place" ∷ []

-- whether a name is among these
abbrev pub is_among : (names : List (List ℕ)) → (name : List ℕ) → Bool
is_among names name = list_any (bytes_eq name) names

-- the members, each a name and a value
abbrev pub named_values : Members → List (List ℕ × Json)
named_values no_members = []
named_values (member name j ms) = (name, j) ∷ named_values ms

-- those with names that no member of a line has which is no header field
abbrev pub field_members : Members → List (List ℕ × Json)
field_members ms = filter (λ m. not (is_among plain_names m.0)) (named_values ms)

-- the little-endian order is meant if none is told
abbrev pub SpellsOrder : Order → Option Json → Type 0
SpellsOrder order None = order ≡ Little
SpellsOrder order (Some j) = j ≡ string (order_byte order ∷ [])

-- the number `default` is meant if none is told
abbrev pub SpellsOr : (default n : ℕ) → Option Json → Type 0
SpellsOr default n None = n ≡ default
SpellsOr default n (Some j) = j ≡ number (decimal n)

-- ---- header fields

-- a known field is the member of its name
abbrev pub IsKnown : Integers → ℕ × FieldTree → List ℕ × Json → Type 0
IsKnown integers p m = (m.0 ≡ field_name p.1.code) × Spells integers p.1.value m.1

-- The known fields are the members that are no others of a line, in their order.
abbrev pub AreKnown : Integers → List FieldTree → Members → Type 0
AreKnown integers fs ms = AllZip (IsKnown integers) (known_fields fs) (field_members ms)

-- the place of a field among all fields, counted from 0; a field with no place told stands after
-- all known ones
abbrev pub SpellsPlace : (before_known : Bool) → (place : ℕ) → Option Json → Type 0
SpellsPlace before_known place None = before_known ≡ false
SpellsPlace before_known place (Some j) = j ≡ number (decimal place)

-- A field that is not known is an object of its code, the signature of its value, the value, and
-- maybe its place: of nothing else, and of none of these twice.
pub record IsOther (integers : Integers) (before_known : Bool) (place : ℕ) (f : FieldTree) (j : Json) : Type 0 where
  pub ms : Members
  pub is : j ≡ object ms
  pub named : list_all (is_among other_names) (keys ms) ≡ true
  pub distinct : AreDistinct (keys ms)
  pub code : get (codes "code") j ≡ Some (number (decimal f.code))
  pub type : get (codes "type") j ≡ Some (string (sig (type_of f.value)))
  pub value : Json
  pub held : get (codes "value") j ≡ Some value
  pub spelled : Spells integers f.value value
  pub placed : SpellsPlace before_known place (get (codes "place") j)

-- The fields that are not known are the objects of an array, in their order; there are none if it
-- is left out.
abbrev pub AreOthers : Integers → List FieldTree → Option Json → Type 0
AreOthers integers fs None = other_fields fs ≡ []
AreOthers integers fs (Some j) = (js : List Json) × (j ≡ array (items_of js)) × AllZip (λ p i. IsOther integers (is_before_known fs p.0) p.0 p.1 i) (other_fields fs) js

-- ---- messages

-- the values of the body are the items of an array; there are none if it is left out
abbrev pub AreBody : Integers → ValueTrees → Option Json → Type 0
AreBody integers xs None = xs ≡ NoValues
AreBody integers xs (Some j) = (js : List Json) × (j ≡ array (items_of js)) × AllSpell integers xs (items_of js)

-- The JSON spells the message in the order: an object, no two of whose members have one name. The
-- message has this number as its serial if none is told. Its type has to be told.
pub record SpellsMessage (integers : Integers) (number : ℕ) (order : Order) (m : MessageTree) (j : Json) : Type 0 where
  pub ms : Members
  pub is : j ≡ object ms
  pub distinct : AreDistinct (keys ms)
  pub ordered : SpellsOrder order (get (codes "order") j)
  pub type : Json
  pub told : get (codes "type") j ≡ Some type
  pub kind : SpellsKind m.kind type
  pub flags : SpellsOr 0 m.flags (get (codes "flags") j)
  pub serial : SpellsOr number m.serial (get (codes "serial") j)
  pub known : AreKnown integers m.fields ms
  pub others : AreOthers integers m.fields (get (codes "fields") j)
  pub body : AreBody integers m.body (get (codes "body") j)

-- The JSON spells the message, which is valid within the limits.
pub record IsReadMessage (integers : Integers) (limits : Limits) (number : ℕ) (order : Order) (m : MessageTree) (j : Json) : Type 0 where
  pub spelled : SpellsMessage integers number order m j
  pub valid : IsValidMessage limits m
