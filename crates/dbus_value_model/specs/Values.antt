-- Trusted by the headline.
-- Values as trees, the type of each, and which of them are well formed.
-- D-Bus Specification, "Basic types" and "Container types".
use Rattle.std.specs.Prelude.{◌≡◌, ℕ, zero, suc, ◌^◌, ◌<◌, List, [], ◌∷◌, length}
use Rattle.dbus_texts.specs.Types.{NumberCode, BYTE, BOOLEAN, INT16, UINT16, INT32, UINT32, INT64, UINT64, DOUBLE, UNIX_FD, TextCode, TypeTree, NumberType, TextType, VariantType, ArrayType, StructType, EntryType, TypeTrees, NoTypes, MoreTypes, IsSingleType}
use Rattle.dbus_types.specs.Alignments.{length_width}
use Rattle.dbus_value_model.specs.WantedTexts.{kind_of, IsWanted}

mutual
  pub data ValueTree : Type 0 where
    NumberValue : NumberCode → ℕ → ValueTree
    TextValue : TextCode → List ℕ → ValueTree
    VariantValue : ValueTree → ValueTree
    ArrayValue : TypeTree → ValueTrees → ValueTree
    StructValue : ValueTrees → ValueTree
    EntryValue : ValueTree → ValueTree → ValueTree

  pub data ValueTrees : Type 0 where
    NoValues : ValueTrees
    MoreValues : ValueTree → ValueTrees → ValueTrees

abbrev pub value_trees : List ValueTree → ValueTrees
value_trees [] = NoValues
value_trees (x ∷ xs) = MoreValues x (value_trees xs)

abbrev mutual
  pub type_of : ValueTree → TypeTree
  type_of (NumberValue k n) = NumberType k
  type_of (TextValue k t) = TextType k
  type_of (VariantValue x) = VariantType
  type_of (ArrayValue t xs) = ArrayType t
  type_of (StructValue xs) = StructType (types_of xs)
  type_of (EntryValue k v) = EntryType (type_of k) (type_of v)

  pub types_of : ValueTrees → TypeTrees
  types_of NoValues = NoTypes
  types_of (MoreValues x xs) = MoreTypes (type_of x) (types_of xs)

abbrev pub IsNumber : NumberCode → ℕ → Type 0
IsNumber BYTE n = n < 256
IsNumber BOOLEAN n = n < 2
IsNumber INT16 n = n < 256 ^ 2
IsNumber UINT16 n = n < 256 ^ 2
IsNumber INT32 n = n < 256 ^ 4
IsNumber UINT32 n = n < 256 ^ 4
IsNumber INT64 n = n < 256 ^ 8
IsNumber UINT64 n = n < 256 ^ 8
IsNumber DOUBLE n = n < 256 ^ 8
IsNumber UNIX_FD n = n < 256 ^ 4

-- every item has the type
abbrev pub AllOf : TypeTree → ValueTrees → Type 0
AllOf t NoValues = Unit {0}
AllOf t (MoreValues x xs) = (type_of x ≡ t) × AllOf t xs

-- room is how many containers may still be opened around a part of the value
abbrev mutual
  pub IsWellFormed : ℕ → ValueTree → Type 0
  IsWellFormed depth_left (NumberValue k n) = IsNumber k n
  IsWellFormed depth_left (TextValue k t) = IsWanted (kind_of k) t × (length t < 256 ^ length_width k)
  IsWellFormed zero (VariantValue x) = ⊥
  IsWellFormed (suc depth_left) (VariantValue x) = IsSingleType (type_of x) × IsWellFormed depth_left x
  IsWellFormed zero (ArrayValue t xs) = ⊥
  IsWellFormed (suc depth_left) (ArrayValue t xs) = AllOf t xs × AreWellFormed depth_left xs
  IsWellFormed zero (StructValue xs) = ⊥
  IsWellFormed (suc depth_left) (StructValue xs) = AreWellFormed depth_left xs
  IsWellFormed depth_left (EntryValue k v) = IsWellFormed depth_left k × IsWellFormed depth_left v

  pub AreWellFormed : ℕ → ValueTrees → Type 0
  AreWellFormed depth_left NoValues = Unit {0}
  AreWellFormed depth_left (MoreValues x xs) = IsWellFormed depth_left x × AreWellFormed depth_left xs
