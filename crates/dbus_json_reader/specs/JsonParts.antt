-- What is read of the parts of a message's JSON, one by one.
-- RFC 8259, section 4, of the messages of the D-Bus Specification, "Message Format" and "Header
-- Fields".
use Rattle.std.specs.Prelude.{◌≡◌, ℕ, ◌<◌, ◌≤◌, List, [], ◌∷◌, map, true, false, nat_lt, Option, Some, codes, decimal}
use Rattle.json.specs.Find.{get}
use Rattle.json.specs.Json.{Json, number, string, object, Members}
use Rattle.dbus_texts.specs.Types.{IsSingleType, sigs}
use Rattle.dbus_value_model.specs.declared.order.Order.{Order}
use Rattle.dbus_value_model.specs.Values.{ValueTree, ValueTrees, type_of, types_of, IsWellFormed, AreWellFormed}
use Rattle.dbus_message_model.specs.Messages.{FieldTree, Suits, Want, want, is_known}
use Rattle.dbus_show.specs.ShownMessages.{field_name}
use Rattle.dbus_json.specs.declared.integers.Integers.{Integers}
use Rattle.dbus_json.specs.JsonMessages.{known_fields, other_fields}
use Rattle.dbus_json_reader.specs.JsonMembers.{SpellsKind}
use Rattle.dbus_json_reader.specs.JsonMessages.{SpellsOrder, SpellsOr, AreOthers, AreBody, IsOther, other_names}
use Rattle.dbus_json_reader.specs.JsonNames.{AreNamed}
use Rattle.dbus_json_reader.specs.JsonValues.{Spells}

-- what is neither a header field nor the body
pub record IsHead (default : ℕ) (order : Order) (kind flags serial : ℕ) (j : Json) : Type 0 where
  pub ordered : SpellsOrder order (get (codes "order") j)
  pub type : Json
  pub told : get (codes "type") j ≡ Some type
  pub kind_is : SpellsKind kind type
  pub flags_are : SpellsOr 0 flags (get (codes "flags") j)
  pub serial_is : SpellsOr default serial (get (codes "serial") j)

-- the JSON spells a value that is wanted of a known field
pub record IsFieldValue (integers : Integers) (depth : ℕ) (w : Want) (v : ValueTree) (j : Json) : Type 0 where
  pub suits : Suits w v
  pub spelled : Spells integers v j
  pub formed : IsWellFormed depth v

-- a known field
pub record IsKnownField (integers : Integers) (depth : ℕ) (f : FieldTree) (m : List ℕ × Json) : Type 0 where
  pub known : is_known f.code ≡ true
  pub named : m.0 ≡ field_name f.code
  pub held : IsFieldValue integers depth (want f.code) f.value m.1

-- fields that are known
abbrev pub AreAllKnown : List FieldTree → Type 0
AreAllKnown [] = Unit {0}
AreAllKnown (f ∷ fs) = (is_known f.code ≡ true) × AreAllKnown fs

-- an object of members that such an object may have, and none of them twice
pub record IsNamedOther (j : Json) : Type 0 where
  pub ms : Members
  pub is : j ≡ object ms
  pub are : AreNamed other_names ms

-- the members of the object of a field that is not known; it stands at `end` if no place is told
pub record IsOtherObject (end place code : ℕ) (text : List ℕ) (value j : Json) : Type 0 where
  pub named : IsNamedOther j
  pub coded : get (codes "code") j ≡ Some (number (decimal code))
  pub unknown : is_known code ≡ false
  pub typed : get (codes "type") j ≡ Some (string text)
  pub held : get (codes "value") j ≡ Some value
  pub placed : SpellsOr end place (get (codes "place") j)
  pub within : place ≤ end

-- a field that is not known, of a value in which no more containers than these are open at once
pub record IsFormedField (depth : ℕ) (f : FieldTree) : Type 0 where
  pub code : f.code < 256
  pub single : IsSingleType (type_of f.value)
  pub formed : IsWellFormed depth f.value

-- such a field, whose place is `end` if none is told
pub record IsOtherField (integers : Integers) (depth end place : ℕ) (f : FieldTree) (j : Json) : Type 0 where
  pub unknown : is_known f.code ≡ false
  pub within : place ≤ end
  pub formed : IsFormedField depth f
  pub spelled : IsOther integers (nat_lt place end) place f j

abbrev pub AreFormedFields : ℕ → List (ℕ × FieldTree) → Type 0
AreFormedFields depth [] = Unit {0}
AreFormedFields depth (p ∷ ps) = IsFormedField depth p.1 × AreFormedFields depth ps

-- all fields: these known ones, and the others
pub record AreReadFields (integers : Integers) (depth : ℕ) (known : List FieldTree) (told : Option Json) (fs : List FieldTree) : Type 0 where
  pub knowns : map (λ p. p.1) (known_fields fs) ≡ known
  pub others : AreOthers integers fs told
  pub formed : AreFormedFields depth (other_fields fs)

-- the body, of the types that a signature spells
pub record IsReadBody (integers : Integers) (depth : ℕ) (signature : List ℕ) (told : Option Json) (xs : ValueTrees) : Type 0 where
  pub spelled : AreBody integers xs told
  pub typed : sigs (types_of xs) ≡ signature
  pub formed : AreWellFormed depth xs
