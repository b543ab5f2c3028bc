-- Which JSON spells which number. An integer is the text that `json` writes of it; a DOUBLE may be
-- any number that reads as it, as other writers of JSON have other texts.
-- RFC 8259, sections 3, 6 and 7, of the numbers of the D-Bus Specification, "Type System".
use Rattle.std.specs.Prelude.{◌≡◌, ◌⊎◌, ℕ, List, Bool, true, cond, Some, Ok, from_bits}
use Rattle.std.specs.Float.{binary64, float_is_finite}
use Rattle.fast_float.specs.Parse.{parse_float}
use Rattle.hex.specs.Hex.{decode_of}
use Rattle.json.specs.Json.{Json, null, boolean, number, string, array, object}
use Rattle.dbus_texts.specs.Types.{NumberCode, BYTE, BOOLEAN, INT16, UINT16, INT32, UINT32, INT64, UINT64, DOUBLE, UNIX_FD}
use Rattle.dbus_value_model.specs.declared.order.Order.TheVariants.{Big}
use Rattle.dbus_value_model.specs.Bytes.{num}
use Rattle.dbus_show.specs.ShownValues.{number_text}
use Rattle.dbus_json.specs.declared.integers.Integers.{Integers}
use Rattle.dbus_json.specs.JsonIntegers.{may_be_number, wide_size}

-- An integer of 64 bits, of this absolute value and of which this is the text in decimal, is this
-- number if it may be one, or a string of it, which no reader rounds.
abbrev pub SpellsWide : Integers → (size : ℕ) → (text : List ℕ) → Json → Type 0
SpellsWide integers size text j = ((may_be_number integers size ≡ true) × (j ≡ number text)) ⊎ (j ≡ string text)

-- the text reads as the float of these 64 bits, which is finite
abbrev pub IsFinite : (bits : ℕ) → (text : List ℕ) → Type 0
IsFinite bits text = (parse_float binary64 text ≡ Some (from_bits binary64 bits)) × (float_is_finite (from_bits binary64 bits) ≡ true)

-- the text is 16 hexadecimal digits of these 64 bits, the highest place first, in either case
abbrev pub IsDigits : (bits : ℕ) → (text : List ℕ) → Type 0
IsDigits bits text = decode_of text ≡ Ok (num Big 8 bits)

-- A DOUBLE of 64 bits is a number that reads as it if it is finite, or a string of its digits
-- whatever it is: no number of JSON is an infinity or a NaN.
abbrev pub SpellsDouble : (bits : ℕ) → Json → Type 0
SpellsDouble bits (number text) = IsFinite bits text
SpellsDouble bits (string text) = IsDigits bits text
SpellsDouble bits null = ⊥
SpellsDouble bits (boolean b) = ⊥
SpellsDouble bits (array js) = ⊥
SpellsDouble bits (object ms) = ⊥

-- a BOOLEAN is true or false, a DOUBLE as above, and any other number its text in decimal, which of
-- 64 bits a string may hold
abbrev pub SpellsNumber : Integers → NumberCode → ℕ → Json → Type 0
SpellsNumber integers BYTE n j = j ≡ number (number_text BYTE n)
SpellsNumber integers BOOLEAN n j = (b : Bool) × (j ≡ boolean b) × (n ≡ cond b 1 0)
SpellsNumber integers INT16 n j = j ≡ number (number_text INT16 n)
SpellsNumber integers UINT16 n j = j ≡ number (number_text UINT16 n)
SpellsNumber integers INT32 n j = j ≡ number (number_text INT32 n)
SpellsNumber integers UINT32 n j = j ≡ number (number_text UINT32 n)
SpellsNumber integers INT64 n j = SpellsWide integers (wide_size INT64 n) (number_text INT64 n) j
SpellsNumber integers UINT64 n j = SpellsWide integers (wide_size UINT64 n) (number_text UINT64 n) j
SpellsNumber integers DOUBLE n j = SpellsDouble n j
SpellsNumber integers UNIX_FD n j = j ≡ number (number_text UNIX_FD n)
