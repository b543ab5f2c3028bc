-- Trusted by the headline.
-- Where values of a type begin, and how many bytes a number and a text's length have.
-- D-Bus Specification, "Marshalling basic types", "Marshalling containers".
use Rattle.std.specs.Prelude.{ℕ}
use Rattle.dbus_texts.specs.Types.{NumberCode, BYTE, BOOLEAN, INT16, UINT16, INT32, UINT32, INT64, UINT64, DOUBLE, UNIX_FD, TextCode, STRING, OBJECT_PATH, SIGNATURE, TypeTree, NumberType, TextType, VariantType, ArrayType, StructType, EntryType}

-- how many bytes a number has, which is also its alignment
abbrev pub width : NumberCode → ℕ
width BYTE = 1
width BOOLEAN = 4
width INT16 = 2
width UINT16 = 2
width INT32 = 4
width UINT32 = 4
width INT64 = 8
width UINT64 = 8
width DOUBLE = 8
width UNIX_FD = 4

-- how many bytes the length before a text has, which is also the text's alignment
abbrev pub length_width : TextCode → ℕ
length_width STRING = 4
length_width OBJECT_PATH = 4
length_width SIGNATURE = 1

abbrev pub alignment_of : TypeTree → ℕ
alignment_of (NumberType n) = width n
alignment_of (TextType t) = length_width t
alignment_of VariantType = 1
alignment_of (ArrayType t) = 4
alignment_of (StructType ts) = 8
alignment_of (EntryType k v) = 8
