-- Trusted by the headline.
-- The tree that a `SigType` stands for. D-Bus Specification, "Type System".
use Rattle.std.specs.Prelude.{List, map}
use Rattle.dbus_texts.specs.Types.{TypeTree, TypeTrees, NumberType, TextType, VariantType, ArrayType, StructType, EntryType, BYTE, BOOLEAN, INT16, UINT16, INT32, UINT32, INT64, UINT64, DOUBLE, UNIX_FD, STRING, OBJECT_PATH, SIGNATURE, type_trees}
use Rattle.dbus_types.specs.declared.sig_type.SigType.{SigType}
use Rattle.dbus_types.specs.declared.sig_type.SigType.TheOpen.{SigType-F}
use Rattle.dbus_types.specs.declared.sig_type.SigType.TheFolds.{fold-SigType}

-- one level, with each type inside already seen
abbrev pub type_step : {A : Type 0} → SigType-F A TypeTree → TypeTree
type_step SigType-F.Byte = NumberType BYTE
type_step SigType-F.Bool = NumberType BOOLEAN
type_step SigType-F.I16 = NumberType INT16
type_step SigType-F.U16 = NumberType UINT16
type_step SigType-F.I32 = NumberType INT32
type_step SigType-F.U32 = NumberType UINT32
type_step SigType-F.I64 = NumberType INT64
type_step SigType-F.U64 = NumberType UINT64
type_step SigType-F.Double = NumberType DOUBLE
type_step SigType-F.Str = TextType STRING
type_step SigType-F.Path = TextType OBJECT_PATH
type_step SigType-F.Sig = TextType SIGNATURE
type_step SigType-F.Fd = NumberType UNIX_FD
type_step SigType-F.Variant = VariantType
type_step (SigType-F.Array t) = ArrayType t.value
type_step (SigType-F.Struct ts) = StructType (type_trees ts.value.items)
type_step (SigType-F.Entry k v) = EntryType k.value v.value

abbrev pub type_tree : {A : Type 0} → SigType A → TypeTree
type_tree {A} = fold-SigType A TypeTree type_step

abbrev pub type_trees_of : {A : Type 0} → List (SigType A) → TypeTrees
type_trees_of ts = type_trees (map type_tree ts)
