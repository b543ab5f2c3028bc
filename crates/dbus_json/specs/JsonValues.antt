-- A value as JSON: numbers, true and false, strings, arrays, and an object for each variant.
-- RFC 8259, sections 3 to 7, of the values of the D-Bus Specification, "Marshaling (Wire Format)".
use Rattle.std.specs.Prelude.{◌≡◌, ℕ, List, [], ◌∷◌, ◌++◌, true, false, cond, Some, codes, from_bits}
use Rattle.std.specs.Float.{binary64, float_is_finite}
use Rattle.std.specs.List.{join_by}
use Rattle.hex.specs.Hex.{encode_lower}
use Rattle.ryu.specs.Parse.{parse_float}
use Rattle.ryu.specs.Plain.{IsPlainNumber}
use Rattle.dbus_texts.specs.Types.{NumberCode, INT64, UINT64, DOUBLE, sig}
use Rattle.dbus_texts.specs.PlainTypes.{is_byte}
use Rattle.dbus_value_model.specs.declared.order.Order.TheVariants.{Big}
use Rattle.dbus_value_model.specs.Values.{ValueTree, ValueTrees, NumberValue, TextValue, VariantValue, ArrayValue, StructValue, EntryValue, NoValues, MoreValues, type_of}
use Rattle.dbus_value_model.specs.Bytes.{num}
use Rattle.dbus_show.specs.declared.escapes.Escapes.TheVariants.{Json}
use Rattle.dbus_show.specs.Escapes.{quoted_by}
use Rattle.dbus_show.specs.ShownValues.{number_text, bytes_in}
use Rattle.dbus_json.specs.declared.integers.Integers.{Integers}
use Rattle.dbus_json.specs.JsonIntegers.{may_be_number, wide_size}

-- ---- the parts of JSON

-- a string of bytes that all stand for themselves: a name, a signature, digits
abbrev pub plain : List ℕ → List ℕ
plain text = codes "\"" ++ (text ++ codes "\"")

-- any string, with the escapes of section 7
abbrev pub string : List ℕ → List ℕ
string text = quoted_by Json text

-- with a comma between two of them
abbrev pub listed : List (List ℕ) → List ℕ
listed texts = join_by (λ text. text) (codes ",") texts

-- section 5
abbrev pub array : (items : List (List ℕ)) → List ℕ
array items = codes "[" ++ (listed items ++ codes "]")

-- section 4
abbrev pub member : (name value : List ℕ) → List ℕ
member name value = plain name ++ (codes ":" ++ value)

abbrev pub object : (members : List (List ℕ)) → List ℕ
object members = codes "{" ++ (listed members ++ codes "}")

-- ---- values

-- A DOUBLE of 64 bits, if it is finite, is a number that reads as the float of these bits: section
-- 6. Infinities and NaNs are no numbers there, so each is a string of its 16 hexadecimal digits,
-- the highest place first.
pub record IsDouble (bits : ℕ) (text : List ℕ) : Type 0 where
  pub finite : float_is_finite (from_bits binary64 bits) ≡ true → IsPlainNumber text × (parse_float binary64 text ≡ Some (from_bits binary64 bits))
  pub other : float_is_finite (from_bits binary64 bits) ≡ false → text ≡ plain (encode_lower (num Big 8 bits))

-- an integer of 64 bits is in decimal: a number, or a string of it if it may be no number
abbrev pub wide_text : Integers → NumberCode → ℕ → List ℕ
wide_text integers k n = cond (may_be_number integers (wide_size k n)) (number_text k n) (plain (number_text k n))

-- any other number is in decimal, and a BOOLEAN true or false
abbrev pub IsNumber : Integers → NumberCode → ℕ → List ℕ → Type 0
IsNumber integers DOUBLE n text = IsDouble n text
IsNumber integers INT64 n text = text ≡ wide_text integers INT64 n
IsNumber integers UINT64 n text = text ≡ wide_text integers UINT64 n
IsNumber integers k n text = text ≡ number_text k n

-- An array of BYTE is a string of two hexadecimal digits for each byte. Any other array is one of
-- its elements, a STRUCT one of its fields, and a DICT_ENTRY one of its key and its value. A
-- VARIANT is an object with the signature of the value that it holds.
abbrev mutual
  pub IsJson : Integers → ValueTree → List ℕ → Type 0
  IsJson integers (NumberValue k n) text = IsNumber integers k n text
  IsJson integers (TextValue k t) text = text ≡ string t
  IsJson integers (ArrayValue t xs) text =
      (is_byte t ≡ true → text ≡ plain (encode_lower (bytes_in xs)))
      × (is_byte t ≡ false → (items : List (List ℕ)) × AreJson integers xs items × (text ≡ array items))
  IsJson integers (StructValue xs) text = (items : List (List ℕ)) × AreJson integers xs items × (text ≡ array items)
  IsJson integers (EntryValue x y) text = (key value : List ℕ) × IsJson integers x key × IsJson integers y value × (text ≡ array (key ∷ value ∷ []))
  IsJson integers (VariantValue x) text =
      (value : List ℕ) × IsJson integers x value × (text ≡ object (member (codes "type") (plain (sig (type_of x))) ∷ member (codes "value") value ∷ []))

  -- values, and the text of each
  pub AreJson : Integers → ValueTrees → List (List ℕ) → Type 0
  AreJson integers NoValues [] = Unit {0}
  AreJson integers (MoreValues x xs) (text ∷ texts) = IsJson integers x text × AreJson integers xs texts
  AreJson integers NoValues (text ∷ texts) = ⊥
  AreJson integers (MoreValues x xs) [] = ⊥
