-- Types without parts, and the types that a signature spells.
-- D-Bus Specification, "Type System".
use Rattle.std.specs.Prelude.{◌<◌, length, Bool, true, false}
use Rattle.dbus_texts.specs.Types.{BYTE, TypeTree, TypeTrees, NumberType, TextType, VariantType, sigs, AreComplete}

abbrev pub is_byte : TypeTree → Bool
is_byte (NumberType BYTE) = true
is_byte _ = false

-- types without parts: the basic types and VARIANT
abbrev pub is_plain : TypeTree → Bool
is_plain (NumberType n) = true
is_plain (TextType t) = true
is_plain VariantType = true
is_plain _ = false

-- types that a signature spells
abbrev pub AreSignatureTypes : TypeTrees → Type 0
AreSignatureTypes ts = AreComplete ts 0 0 × (length (sigs ts) < 256)
