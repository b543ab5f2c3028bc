-- Values of a message that are still to be seen, and which trees stand there.
-- D-Bus Specification, "Marshaling (Wire Format)".
use Rattle.std.specs.Prelude.{◌≡◌, ℕ, ◌+◌, ◌-◌, ◌*◌, ◌<◌, ◌≤◌, List, [], ◌∷◌, length, map}
use Rattle.std.specs.List.{flat_map}
use Rattle.dbus_texts.specs.Types.{NumberCode, number_code}
use Rattle.dbus_types.specs.Alignments.{width}
use Rattle.dbus_value_model.specs.Bytes.{num}
use Rattle.dbus_value_model.specs.declared.order.Order.{Order}
use Rattle.dbus_value_model.specs.Spelling.{spelling}
use Rattle.dbus_value_model.specs.Values.{ValueTree, ValueTrees, NumberValue, value_trees}
use Rattle.dbus_walk.specs.Standing.{AllStand, ElementsStand}
use Rattle.dbus_walk.specs.declared.spot.MessageBytes.{MessageBytes}
use Rattle.dbus_walk.specs.declared.spot.Spot.{Spot}

-- several values: the bytes of the message and their order, where the first value begins, the types
-- that are left, and how many containers may be open in each value
pub record ValuesState : Type 0 where
  pub order : Order
  pub bytes : List ℕ
  pub at : ℕ
  pub types : List ℕ
  pub depth_left : ℕ

-- values that stand at a spot of a message's bytes
abbrev pub values_at : MessageBytes → Spot → ValuesState
values_at source spot = record { order = source.order; bytes = source.bytes.now; at = spot.at; types = spot.types.now; depth_left = spot.depth_left }

-- these trees stand there, one of each type, and rest are the bytes after them
abbrev pub AreLeft : ValuesState → ValueTrees → (rest : List ℕ) → Type 0
AreLeft s xs rest = AllStand s.order s.depth_left s.types s.at s.bytes xs rest

-- the types are those of a signature, and some trees stand there
abbrev pub SomeAreLeft : ValuesState → Type 0
SomeAreLeft s = (length s.types ≤ 255) × (xs : ValueTrees) × (rest : List ℕ) × AreLeft s xs rest

-- the values after one are left, in the same bytes: they begin where its spelling ends
abbrev pub IsAfter : ValuesState → ValueTree → ValuesState → Type 0
IsAfter before x left = (left.order ≡ before.order) × (left.bytes ≡ before.bytes) × (left.at ≡ before.at + length (spelling before.order before.at x))

-- elements of an array, up to an end, all of one type
pub record ElementsState : Type 0 where
  pub order : Order
  pub bytes : List ℕ
  pub at : ℕ
  pub end : ℕ
  pub type : List ℕ
  pub depth_left : ℕ

abbrev pub ElementsAreLeft : ElementsState → ValueTrees → (rest : List ℕ) → Type 0
ElementsAreLeft s xs rest = ElementsStand s.order s.depth_left s.type s.at s.end s.bytes xs rest

abbrev pub SomeElementsAreLeft : ElementsState → Type 0
SomeElementsAreLeft s = (length s.type ≤ 255) × (xs : ValueTrees) × (rest : List ℕ) × ElementsAreLeft s xs rest

-- the elements after one are left, in the same bytes up to the same end: they begin where its
-- spelling ends
abbrev pub IsAfterElement : ElementsState → ValueTree → ElementsState → Type 0
IsAfterElement before x left = (left.order ≡ before.order) × (left.bytes ≡ before.bytes) × (left.end ≡ before.end) × (left.at ≡ before.at + length (spelling before.order before.at x))

-- the type is none of numbers
abbrev pub IsOfNoNumbers : (type : List ℕ) → Type 0
IsOfNoNumbers type = (k : NumberCode) → type ≡ number_code k ∷ [] → ⊥

-- elements of a type are numbers, and bytes are theirs, with nothing before them or between
pub record AreNumbersIn (order : Order) (type : List ℕ) (xs : ValueTrees) (bytes : List ℕ) : Type 0 where
  pub code : NumberCode
  pub numbers : List ℕ
  pub typed : type ≡ number_code code ∷ []
  pub are : xs ≡ value_trees (map (NumberValue code) numbers)
  pub spelled : bytes ≡ flat_map (num order (width code)) numbers

-- An array, a struct or a variant takes one of the room for the values in it, and what is in a dict
-- entry has a shorter signature. So this number is less for what is in a value than for the value.
abbrev pub weight : (depth_left : ℕ) (types : List ℕ) → ℕ
weight depth_left types = 256 * depth_left + length types

-- fewer values are left, and they may have as many open containers
abbrev pub AreFewer : ValuesState → ValuesState → Type 0
AreFewer left before = (left.depth_left ≡ before.depth_left) × (length left.types < length before.types)

abbrev pub AreFewerElements : ElementsState → ElementsState → Type 0
AreFewerElements left before = (left.depth_left ≡ before.depth_left) × (left.type ≡ before.type) × (left.end - left.at < before.end - before.at)
