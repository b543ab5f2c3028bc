-- What is written of a container before its parts and after them.
-- RFC 8259, sections 4 and 5; D-Bus Specification, "Marshaling (Wire Format)".
use Rattle.std.specs.Prelude.{ℕ, List, [], ◌++◌, codes}
use Rattle.dbus_texts.specs.Types.{sig}
use Rattle.dbus_value_model.specs.Values.{ValueTree, NumberValue, TextValue, VariantValue, ArrayValue, StructValue, EntryValue, type_of}

abbrev pub open_text : ValueTree → List ℕ
open_text (NumberValue k n) = []
open_text (TextValue k t) = []
open_text (VariantValue x) = codes "{\"type\":\"" ++ (sig (type_of x) ++ codes "\",\"value\":")
open_text (ArrayValue t xs) = codes "["
open_text (StructValue xs) = codes "["
open_text (EntryValue x y) = codes "["

abbrev pub close_text : ValueTree → List ℕ
close_text (NumberValue k n) = []
close_text (TextValue k t) = []
close_text (VariantValue x) = codes "}"
close_text (ArrayValue t xs) = codes "]"
close_text (StructValue xs) = codes "]"
close_text (EntryValue x y) = codes "]"
