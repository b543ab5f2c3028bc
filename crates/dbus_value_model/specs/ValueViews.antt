-- Trusted by the headline.
-- The tree that a `Value` stands for. A signed number is seen as its two's complement, a DOUBLE as
-- its 64 bits. D-Bus Specification, "Marshaling (Wire Format)".
use Rattle.std.specs.Prelude.{ℕ, List, map, string_bytes, if◌then◌else◌}
use Rattle.std.specs.Int.{cast_unsigned, w16, w32, w64}
use Rattle.dbus_texts.specs.Types.{NumberType, BYTE, BOOLEAN, INT16, UINT16, INT32, UINT32, INT64, UINT64, DOUBLE, UNIX_FD, STRING, OBJECT_PATH, SIGNATURE}
use Rattle.dbus_types.specs.SigTypes.{type_tree}
use Rattle.dbus_value_model.specs.Values.{ValueTree, ValueTrees, NumberValue, TextValue, VariantValue, ArrayValue, StructValue, EntryValue, value_trees}
use Rattle.dbus_value_model.specs.declared.value.Value.{Value}
use Rattle.dbus_value_model.specs.declared.value.Value.TheOpen.{Value-F, DictEntry-F}
use Rattle.dbus_value_model.specs.declared.value.Value.TheFolds.{fold-Value}

-- bytes as an array's elements
abbrev pub byte_values : List ℕ → ValueTrees
byte_values bytes = value_trees (map (NumberValue BYTE) bytes)

-- one level, with each value inside already seen
abbrev pub value_step : {A : Type 0} → Value-F A ValueTree ValueTree → ValueTree
value_step (Value-F.Byte n) = NumberValue BYTE n
value_step (Value-F.Bool b) = NumberValue BOOLEAN (if b then 1 else 0)
value_step (Value-F.I16 z) = NumberValue INT16 (cast_unsigned w16 z)
value_step (Value-F.U16 n) = NumberValue UINT16 n
value_step (Value-F.I32 z) = NumberValue INT32 (cast_unsigned w32 z)
value_step (Value-F.U32 n) = NumberValue UINT32 n
value_step (Value-F.I64 z) = NumberValue INT64 (cast_unsigned w64 z)
value_step (Value-F.U64 n) = NumberValue UINT64 n
value_step (Value-F.Double n) = NumberValue DOUBLE n
value_step (Value-F.Str s) = TextValue STRING (string_bytes s)
value_step (Value-F.Path s) = TextValue OBJECT_PATH (string_bytes s)
value_step (Value-F.Sig s) = TextValue SIGNATURE (string_bytes s)
value_step (Value-F.Fd n) = NumberValue UNIX_FD n
value_step (Value-F.Bytes bytes) = ArrayValue (NumberType BYTE) (byte_values bytes.items)
value_step (Value-F.Array t vs) = ArrayValue (type_tree t) (value_trees vs.items)
value_step (Value-F.Struct vs) = StructValue (value_trees vs.items)
value_step (Value-F.Entry e) = e.value
value_step (Value-F.Variant v) = VariantValue v.value

abbrev pub entry_step : {A : Type 0} → DictEntry-F A ValueTree ValueTree → ValueTree
entry_step e = EntryValue e.key e.value

abbrev pub value_tree : {A : Type 0} → Value A → ValueTree
value_tree {A} = fold-Value A ValueTree ValueTree value_step entry_step

abbrev pub value_trees_of : {A : Type 0} → List (Value A) → ValueTrees
value_trees_of vs = value_trees (map value_tree vs)
