-- When a value is well formed, by its parts: how deep it nests, whether its types fit together, its
-- texts, and its numbers. D-Bus Specification, "Type System", "Valid Signatures", "Message
-- Protocol" for the limit on nesting.
use Rattle.std.specs.Prelude.{ℕ, zero, suc, ◌^◌, ◌<◌, length, ◌↔◌}
use Rattle.dbus_texts.specs.Types.{TypeTree, NumberType, TextType, VariantType, ArrayType, StructType, EntryType, IsBasic, IsSingleType}
use Rattle.dbus_types.specs.Alignments.{length_width}
use Rattle.dbus_value_model.specs.WantedTexts.{IsWanted, kind_of}
use Rattle.dbus_value_model.specs.Values.{ValueTree, ValueTrees, NumberValue, TextValue, VariantValue, ArrayValue, StructValue, EntryValue, NoValues, MoreValues, type_of, AllOf, IsNumber, IsWellFormed}

-- no more than room arrays, structs and variants are open at once
abbrev mutual
  pub NestsWithin : ℕ → ValueTree → Type 0
  NestsWithin depth_left (NumberValue k n) = Unit {0}
  NestsWithin depth_left (TextValue k t) = Unit {0}
  NestsWithin zero (VariantValue x) = ⊥
  NestsWithin (suc depth_left) (VariantValue x) = NestsWithin depth_left x
  NestsWithin zero (ArrayValue t xs) = ⊥
  NestsWithin (suc depth_left) (ArrayValue t xs) = NestWithin depth_left xs
  NestsWithin zero (StructValue xs) = ⊥
  NestsWithin (suc depth_left) (StructValue xs) = NestWithin depth_left xs
  NestsWithin depth_left (EntryValue k v) = NestsWithin depth_left k × NestsWithin depth_left v

  pub NestWithin : ℕ → ValueTrees → Type 0
  NestWithin depth_left NoValues = Unit {0}
  NestWithin depth_left (MoreValues x xs) = NestsWithin depth_left x × NestWithin depth_left xs

-- every item has its array's type, and every variant's type spells a signature
abbrev mutual
  pub IsUniform : ValueTree → Type 0
  IsUniform (NumberValue k n) = Unit {0}
  IsUniform (TextValue k t) = Unit {0}
  IsUniform (VariantValue x) = IsSingleType (type_of x) × IsUniform x
  IsUniform (ArrayValue t xs) = AllOf t xs × AreUniform xs
  IsUniform (StructValue xs) = AreUniform xs
  IsUniform (EntryValue k v) = IsUniform k × IsUniform v

  pub AreUniform : ValueTrees → Type 0
  AreUniform NoValues = Unit {0}
  AreUniform (MoreValues x xs) = IsUniform x × AreUniform xs

-- every text is one of its kind
abbrev mutual
  pub IsNamed : ValueTree → Type 0
  IsNamed (NumberValue k n) = Unit {0}
  IsNamed (TextValue k t) = IsWanted (kind_of k) t
  IsNamed (VariantValue x) = IsNamed x
  IsNamed (ArrayValue t xs) = AreNamed xs
  IsNamed (StructValue xs) = AreNamed xs
  IsNamed (EntryValue k v) = IsNamed k × IsNamed v

  pub AreNamed : ValueTrees → Type 0
  AreNamed NoValues = Unit {0}
  AreNamed (MoreValues x xs) = IsNamed x × AreNamed xs

-- every number is one of its type's, and every text's length fits into the bytes before it
abbrev mutual
  pub IsRanged : ValueTree → Type 0
  IsRanged (NumberValue k n) = IsNumber k n
  IsRanged (TextValue k t) = length t < 256 ^ length_width k
  IsRanged (VariantValue x) = IsRanged x
  IsRanged (ArrayValue t xs) = AreRanged xs
  IsRanged (StructValue xs) = AreRanged xs
  IsRanged (EntryValue k v) = IsRanged k × IsRanged v

  pub AreRanged : ValueTrees → Type 0
  AreRanged NoValues = Unit {0}
  AreRanged (MoreValues x xs) = IsRanged x × AreRanged xs

-- a value is well formed exactly where it is so in its parts
abbrev pub FormedByParts : Type 0
FormedByParts = (depth_left : ℕ) (v : ValueTree) → IsWellFormed depth_left v ↔ (NestsWithin depth_left v × IsUniform v × IsNamed v × IsRanged v)

-- The same, part by part: each part, but for a dict entry in an array, has a type that a signature
-- spells; such an entry's key is basic.
abbrev pub IsItemType : TypeTree → Type 0
IsItemType (NumberType n) = Unit {0}
IsItemType (TextType t) = Unit {0}
IsItemType VariantType = Unit {0}
IsItemType (ArrayType t) = IsSingleType (ArrayType t)
IsItemType (StructType ts) = IsSingleType (StructType ts)
IsItemType (EntryType k v) = IsBasic k

abbrev mutual
  pub HasTypedParts : ValueTree → Type 0
  HasTypedParts (NumberValue k n) = Unit {0}
  HasTypedParts (TextValue k t) = Unit {0}
  HasTypedParts (VariantValue x) = IsSingleType (type_of x) × HasTypedParts x
  HasTypedParts (ArrayValue t xs) = AllOf t xs × AreTypedItems xs
  HasTypedParts (StructValue xs) = AreTypedParts xs
  HasTypedParts (EntryValue k v) = IsSingleType (type_of k) × HasTypedParts k × IsSingleType (type_of v) × HasTypedParts v

  pub AreTypedParts : ValueTrees → Type 0
  AreTypedParts NoValues = Unit {0}
  AreTypedParts (MoreValues x xs) = IsSingleType (type_of x) × HasTypedParts x × AreTypedParts xs

  pub AreTypedItems : ValueTrees → Type 0
  AreTypedItems NoValues = Unit {0}
  AreTypedItems (MoreValues x xs) = IsItemType (type_of x) × HasTypedParts x × AreTypedItems xs

-- the type of a whole and those of variants' values speak for each part
abbrev pub WholesSpeakForParts : Type 0
WholesSpeakForParts = (v : ValueTree) → IsSingleType (type_of v) → IsUniform v ↔ HasTypedParts v
