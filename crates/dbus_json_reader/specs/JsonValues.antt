-- Which JSON spells which value: `json` writes the text of one, and other writers of JSON may write
-- others.
-- RFC 8259, sections 3 to 7, of the values of the D-Bus Specification, "Type System".
use Rattle.std.specs.Prelude.{◌≡◌, ◌⊎◌, ℕ, List, true, false, Ok, codes}
use Rattle.hex.specs.Hex.{decode_of}
use Rattle.json.specs.Json.{Json, string, array, object, Items, no_items, item, Members, no_members, member}
use Rattle.dbus_texts.specs.PlainTypes.{is_byte}
use Rattle.dbus_texts.specs.Types.{TypeTree, TypeTrees, sig}
use Rattle.dbus_value_model.specs.Values.{ValueTree, ValueTrees, NumberValue, TextValue, VariantValue, ArrayValue, StructValue, EntryValue, NoValues, MoreValues, type_of, types_of, AllOf, IsWellFormed, AreWellFormed}
use Rattle.dbus_show.specs.ShownValues.{bytes_in}
use Rattle.dbus_json.specs.declared.integers.Integers.{Integers}
use Rattle.dbus_json_reader.specs.JsonNumbers.{SpellsNumber}

-- an object of just a type and a value, in either order
abbrev pub IsTyped : (type : List ℕ) → (value : Json) → Members → Type 0
IsTyped type value ms =
    (ms ≡ member (codes "type") (string type) (member (codes "value") value no_members))
    ⊎ (ms ≡ member (codes "value") value (member (codes "type") (string type) no_members))

-- An array of BYTE is a string of two hexadecimal digits for each byte, in either case. Any other
-- array is one of its elements, a STRUCT one of its fields, and a DICT_ENTRY one of its key and its
-- value. A VARIANT is an object with the signature of the value that it holds.
abbrev mutual
  pub Spells : Integers → ValueTree → Json → Type 0
  Spells integers (NumberValue k n) j = SpellsNumber integers k n j
  Spells integers (TextValue k t) j = j ≡ string t
  Spells integers (ArrayValue t xs) j =
      (is_byte t ≡ true → (text : List ℕ) × (j ≡ string text) × (decode_of text ≡ Ok (bytes_in xs)))
      × (is_byte t ≡ false → (js : Items) × (j ≡ array js) × AllSpell integers xs js)
  Spells integers (StructValue xs) j = (js : Items) × (j ≡ array js) × AllSpell integers xs js
  Spells integers (EntryValue x y) j = (key value : Json) × Spells integers x key × Spells integers y value × (j ≡ array (item key (item value no_items)))
  Spells integers (VariantValue x) j = (ms : Members) × (value : Json) × (j ≡ object ms) × IsTyped (sig (type_of x)) value ms × Spells integers x value

  -- values, and the JSON of each
  pub AllSpell : Integers → ValueTrees → Items → Type 0
  AllSpell integers NoValues no_items = Unit {0}
  AllSpell integers (MoreValues x xs) (item j js) = Spells integers x j × AllSpell integers xs js
  AllSpell integers NoValues (item j js) = ⊥
  AllSpell integers (MoreValues x xs) no_items = ⊥

-- The JSON spells the value, which is of this type, and well formed: no more containers than these
-- are open in it at once.
pub record IsRead (integers : Integers) (depth : ℕ) (t : TypeTree) (v : ValueTree) (j : Json) : Type 0 where
  pub spelled : Spells integers v j
  pub typed : type_of v ≡ t
  pub formed : IsWellFormed depth v

-- the same of an array's elements, which are all of one type
pub record AreElements (integers : Integers) (depth : ℕ) (t : TypeTree) (xs : ValueTrees) (js : Items) : Type 0 where
  pub spelled : AllSpell integers xs js
  pub typed : AllOf t xs
  pub formed : AreWellFormed depth xs

-- the same of values of these types, one each
pub record AreRead (integers : Integers) (depth : ℕ) (ts : TypeTrees) (xs : ValueTrees) (js : Items) : Type 0 where
  pub spelled : AllSpell integers xs js
  pub typed : types_of xs ≡ ts
  pub formed : AreWellFormed depth xs
