-- Trusted by the headline.
-- Types as trees, the text of each, and which of them are complete.
-- D-Bus Specification, "Type System" ("Basic types", "Container types", "Summary of types").
use Rattle.std.specs.Prelude.{ℕ, ◌+◌, ◌<◌, List, [], ◌∷◌, ◌++◌, length, Bool, true, false, IsTrue}
use Rattle.dbus_texts.specs.Characters.{open_parenthesis, close_parenthesis, open_brace, close_brace}

-- the types whose values are one number
pub data NumberCode : Type 0 where
  BYTE BOOLEAN INT16 UINT16 INT32 UINT32 INT64 UINT64 DOUBLE UNIX_FD : NumberCode

-- the types whose values are one text
pub data TextCode : Type 0 where
  STRING OBJECT_PATH SIGNATURE : TextCode

mutual
  pub data TypeTree : Type 0 where
    NumberType : NumberCode → TypeTree
    TextType : TextCode → TypeTree
    VariantType : TypeTree
    ArrayType : TypeTree → TypeTree
    StructType : TypeTrees → TypeTree
    EntryType : TypeTree → TypeTree → TypeTree

  pub data TypeTrees : Type 0 where
    NoTypes : TypeTrees
    MoreTypes : TypeTree → TypeTrees → TypeTrees

abbrev pub type_trees : List TypeTree → TypeTrees
type_trees [] = NoTypes
type_trees (t ∷ ts) = MoreTypes t (type_trees ts)

-- `y`, `b`, `n`, `q`, `i`, `u`, `x`, `t`, `d`, `h` in ASCII
abbrev pub number_code : NumberCode → ℕ
number_code BYTE = 121
number_code BOOLEAN = 98
number_code INT16 = 110
number_code UINT16 = 113
number_code INT32 = 105
number_code UINT32 = 117
number_code INT64 = 120
number_code UINT64 = 116
number_code DOUBLE = 100
number_code UNIX_FD = 104

-- `s`, `o`, `g`
abbrev pub text_code : TextCode → ℕ
text_code STRING = 115
text_code OBJECT_PATH = 111
text_code SIGNATURE = 103

-- `v`
abbrev pub variant_code : ℕ
variant_code = 118

-- `a`
abbrev pub array_code : ℕ
array_code = 97

-- the text of a type
abbrev mutual
  pub sig : TypeTree → List ℕ
  sig (NumberType n) = number_code n ∷ []
  sig (TextType t) = text_code t ∷ []
  sig VariantType = variant_code ∷ []
  sig (ArrayType t) = array_code ∷ sig t
  sig (StructType ts) = open_parenthesis ∷ (sigs ts ++ close_parenthesis ∷ [])
  sig (EntryType k v) = open_brace ∷ (sig k ++ (sig v ++ close_brace ∷ []))

  pub sigs : TypeTrees → List ℕ
  sigs NoTypes = []
  sigs (MoreTypes t ts) = sig t ++ sigs ts

-- basic types: a number or a text
abbrev pub IsBasic : TypeTree → Type 0
IsBasic (NumberType n) = Unit {0}
IsBasic (TextType t) = Unit {0}
IsBasic _ = ⊥

-- some type is there
abbrev pub AreSome : TypeTrees → Type 0
AreSome NoTypes = ⊥
AreSome (MoreTypes t ts) = Unit {0}

-- A complete type, with so many arrays and structs open around it, of which there may be 32 each.
-- Only where `inside` says that it is an array's element may it be a dict entry.
abbrev mutual
  pub IsComplete : TypeTree → Bool → ℕ → ℕ → Type 0
  IsComplete (NumberType n) inside arrays structs = Unit {0}
  IsComplete (TextType t) inside arrays structs = Unit {0}
  IsComplete VariantType inside arrays structs = Unit {0}
  IsComplete (ArrayType t) inside arrays structs = (arrays < 32) × IsComplete t true (arrays + 1) structs
  IsComplete (StructType ts) inside arrays structs = (structs < 32) × AreSome ts × AreComplete ts arrays (structs + 1)
  IsComplete (EntryType k v) inside arrays structs = IsTrue inside × IsBasic k × IsComplete v false arrays structs

  pub AreComplete : TypeTrees → ℕ → ℕ → Type 0
  AreComplete NoTypes arrays structs = Unit {0}
  AreComplete (MoreTypes t ts) arrays structs = IsComplete t false arrays structs × AreComplete ts arrays structs

-- The same with the limits on nesting lifted.
abbrev mutual
  pub IsShaped : Bool → TypeTree → Type 0
  IsShaped inside (NumberType n) = Unit {0}
  IsShaped inside (TextType t) = Unit {0}
  IsShaped inside VariantType = Unit {0}
  IsShaped inside (ArrayType t) = IsShaped true t
  IsShaped inside (StructType NoTypes) = ⊥
  IsShaped inside (StructType (MoreTypes t ts)) = IsShaped false t × AreShaped ts
  IsShaped false (EntryType k v) = ⊥
  IsShaped true (EntryType k v) = IsBasic k × IsShaped false v

  pub AreShaped : TypeTrees → Type 0
  AreShaped NoTypes = Unit {0}
  AreShaped (MoreTypes t ts) = IsShaped false t × AreShaped ts

-- a type that a signature of exactly one complete type spells
abbrev pub IsSingleType : TypeTree → Type 0
IsSingleType t = IsComplete t false 0 0 × (length (sig t) < 256)
