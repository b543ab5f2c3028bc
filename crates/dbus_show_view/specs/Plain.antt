-- What is written of a container before its parts and after them, and of a header field.
-- D-Bus Specification, "Marshaling (Wire Format)" and "Header Fields".
use Rattle.std.specs.Prelude.{ℕ, List, [], ◌++◌, codes, if◌then◌else◌}
use Rattle.dbus_texts.specs.Types.{ArrayType, sig}
use Rattle.dbus_value_model.specs.Values.{ValueTree, NumberValue, TextValue, VariantValue, ArrayValue, StructValue, EntryValue}
use Rattle.dbus_message_model.specs.Messages.{is_known}
use Rattle.dbus_show.specs.ShownValues.{value_text}
use Rattle.dbus_show.specs.ShownMessages.{bare, field_name}

abbrev pub open_text : ValueTree → List ℕ
open_text (NumberValue k n) = []
open_text (TextValue k t) = []
open_text (VariantValue x) = codes "<"
open_text (ArrayValue t xs) = sig (ArrayType t) ++ codes ":["
open_text (StructValue xs) = codes "("
open_text (EntryValue x y) = codes "{"

abbrev pub close_text : ValueTree → List ℕ
close_text (NumberValue k n) = []
close_text (TextValue k t) = []
close_text (VariantValue x) = codes ">"
close_text (ArrayValue t xs) = codes "]"
close_text (StructValue xs) = codes ")"
close_text (EntryValue x y) = codes "}"

-- a header field with this code and value, after a space
abbrev pub named : ℕ → ValueTree → List ℕ
named code v = codes " " ++ (field_name code ++ (codes "=" ++ (if is_known code then bare v else value_text v)))
