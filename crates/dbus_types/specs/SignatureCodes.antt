-- Types as the bytes of a signature: which byte each begins with, where it ends, and which numbers
-- need no look. D-Bus Specification, "Basic types", "Valid Signatures", "Summary of types".
use Rattle.std.specs.Prelude.{◌≡◌, ℕ, ◌+◌, List, ◌++◌, length, drop, ◌<◌, ◌≤◌, get_or}
use Rattle.dbus_texts.specs.Types.{BOOLEAN, UNIX_FD, TypeTree, NumberType, TextType, VariantType, ArrayType, StructType, EntryType, number_code, text_code, sig}
use Rattle.dbus_types.specs.Alignments.{width}

-- the first byte of a type's text
abbrev pub first_code : TypeTree → ℕ
first_code (NumberType k) = number_code k
first_code (TextType k) = text_code k
first_code VariantType = 118
first_code (ArrayType t) = 97
first_code (StructType ts) = 40
first_code (EntryType k v) = 123

-- the type that begins at pos ends there, whatever follows it
abbrev pub IsTypeEnd : List ℕ → ℕ → ℕ → Type 0
IsTypeEnd types pos end = (t : TypeTree) (more : List ℕ) → drop pos types ≡ sig t ++ more → end ≡ pos + length (sig t)

-- How many bytes a number of the type has, if these bytes may be any; else 0. A BOOLEAN is 0 or 1,
-- and a UNIX_FD is the index of a descriptor. The other types have no numbers.
abbrev pub free_width_of : TypeTree → ℕ
free_width_of (NumberType BOOLEAN) = 0
free_width_of (NumberType UNIX_FD) = 0
free_width_of (NumberType k) = width k
free_width_of (TextType k) = 0
free_width_of VariantType = 0
free_width_of (ArrayType t) = 0
free_width_of (StructType ts) = 0
free_width_of (EntryType k v) = 0

-- How long each type of a signature is, by the place where it begins.
-- D-Bus Specification, "Valid Signatures".

-- each length is that of the type that begins there, whatever follows it
pub record AreLengths (types lengths : List ℕ) : Type 0 where
  pub same : length lengths ≡ length types
  pub value : (pos : ℕ) (t : TypeTree) (more : List ℕ) → drop pos types ≡ sig t ++ more → get_or lengths pos 0 ≡ length (sig t)

-- From a place on it is. Each is 1 or more there, and no more than the bytes that are left.
pub record AreNoted (from : ℕ) (types lengths : List ℕ) : Type 0 where
  pub same : length lengths ≡ length types
  pub value : (pos : ℕ) (t : TypeTree) (more : List ℕ) → from ≤ pos → drop pos types ≡ sig t ++ more → get_or lengths pos 0 ≡ length (sig t)
  pub some : (pos : ℕ) → from ≤ pos → pos < length types → 0 < get_or lengths pos 0
  pub within : (pos : ℕ) → from ≤ pos → pos < length types → pos + get_or lengths pos 0 ≤ length types
