-- The text of a value: the code of its type, a colon and its number or text; an array after its
-- signature; the other containers in brackets of their own. The codes and signatures are those of
-- the D-Bus Specification, "Basic types" and "Container types".
use Rattle.std.specs.Prelude.{ℕ, List, [], ◌∷◌, ◌++◌, codes, decimal, nat_eq, if◌then◌else◌}
use Rattle.std.specs.Fmt.{signed_decimal}
use Rattle.std.specs.Int.{cast_signed, w16, w32, w64}
use Rattle.std.specs.List.{concat, join_by}
use Rattle.hex.specs.Hex.{encode_lower}
use Rattle.dbus_texts.specs.Types.{NumberCode, BYTE, BOOLEAN, INT16, UINT16, INT32, UINT32, INT64, UINT64, DOUBLE, UNIX_FD, ArrayType, number_code, text_code, sig}
use Rattle.dbus_texts.specs.PlainTypes.{is_byte}
use Rattle.dbus_value_model.specs.declared.order.Order.TheVariants.{Big}
use Rattle.dbus_value_model.specs.Values.{ValueTree, ValueTrees, NumberValue, TextValue, VariantValue, ArrayValue, StructValue, EntryValue, NoValues, MoreValues}
use Rattle.dbus_value_model.specs.Bytes.{num}
use Rattle.dbus_show.specs.declared.escapes.Escapes.TheVariants.{Shown}
use Rattle.dbus_show.specs.Escapes.{quoted_by}

-- A number in decimal, a signed one read back from its two's complement; a DOUBLE's eight bytes,
-- the highest place first, two hexadecimal digits for each.
abbrev pub number_text : NumberCode → ℕ → List ℕ
number_text BYTE n = decimal n
number_text BOOLEAN n = if nat_eq n 0 then codes "false" else codes "true"
number_text INT16 n = signed_decimal (cast_signed w16 n)
number_text UINT16 n = decimal n
number_text INT32 n = signed_decimal (cast_signed w32 n)
number_text UINT32 n = decimal n
number_text INT64 n = signed_decimal (cast_signed w64 n)
number_text UINT64 n = decimal n
number_text DOUBLE n = encode_lower (num Big 8 n)
number_text UNIX_FD n = decimal n

-- a text as it is shown: between quotation marks, with its escapes
abbrev pub quoted : List ℕ → List ℕ
quoted text = quoted_by Shown text

abbrev pub joined : List (List ℕ) → List ℕ
joined texts = join_by (λ text. text) (codes ", ") texts

-- the byte that a value is; of no other value is there one
abbrev pub byte_in : ValueTree → List ℕ
byte_in (NumberValue BYTE n) = n ∷ []
byte_in _ = []

abbrev pub bytes_in : ValueTrees → List ℕ
bytes_in NoValues = []
bytes_in (MoreValues x xs) = byte_in x ++ bytes_in xs

-- An array of BYTE is shown as its bytes in hexadecimal, and any other as its items.
abbrev mutual
  pub value_text : ValueTree → List ℕ
  value_text (NumberValue k n) = number_code k ∷ (codes ":" ++ number_text k n)
  value_text (TextValue k t) = text_code k ∷ (codes ":" ++ quoted t)
  value_text (ArrayValue t xs) = sig (ArrayType t) ++ (codes ":" ++ (
      if is_byte t then encode_lower (bytes_in xs) else concat (codes "[" ∷ joined (value_texts xs) ∷ codes "]" ∷ [])))
  value_text (StructValue xs) = concat (codes "(" ∷ joined (value_texts xs) ∷ codes ")" ∷ [])
  value_text (EntryValue k v) = concat (codes "{" ∷ value_text k ∷ codes ", " ∷ value_text v ∷ codes "}" ∷ [])
  value_text (VariantValue x) = concat (codes "<" ∷ value_text x ∷ codes ">" ∷ [])

  pub value_texts : ValueTrees → List (List ℕ)
  value_texts NoValues = []
  value_texts (MoreValues x xs) = value_text x ∷ value_texts xs
