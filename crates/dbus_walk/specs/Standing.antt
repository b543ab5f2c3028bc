-- Values as they stand among a message's bytes.
-- D-Bus Specification, "Marshaling (Wire Format)".
use Rattle.std.specs.Prelude.{◌≡◌, ℕ, ◌+◌, ◌<◌, ◌≤◌, ◌^◌, List, ◌++◌, length, drop, true, ◌-◌, take, get_or}
use Rattle.dbus_texts.specs.Types.{TypeTree, sig, sigs, IsShaped, AreShaped}
use Rattle.dbus_value_model.specs.declared.order.Order.{Order}
use Rattle.dbus_value_model.specs.Spelling.{spelling, spellings, IsWithinLimits, AreWithinLimits}
use Rattle.dbus_value_model.specs.Values.{ValueTree, ValueTrees, type_of, types_of, AllOf, IsWellFormed, AreWellFormed}
use Rattle.dbus_walk.specs.declared.spot.MessageBytes.{MessageBytes}
use Rattle.dbus_walk.specs.declared.spot.Spot.{Spot}

-- A value whose type has this text stands in the bytes from an offset on, and rest are the bytes
-- after it. So many containers may be open in it, and the length of each array in it fits into its
-- four bytes.
pub record Stands (order : Order) (depth_left : ℕ) (types : List ℕ) (at : ℕ) (bytes : List ℕ) (v : ValueTree) (rest : List ℕ) : Type 0 where
  pub text : sig (type_of v) ≡ types
  pub shaped : IsShaped true (type_of v)
  pub formed : IsWellFormed depth_left v
  pub array : ℕ
  pub small : array < 256 ^ 4
  pub within : IsWithinLimits array order at v
  pub spelled : drop at bytes ≡ spelling order at v ++ rest

-- it stands at this spot
abbrev pub StandsAt : MessageBytes → Spot → ValueTree → (rest : List ℕ) → Type 0
StandsAt source spot v rest = Stands source.order spot.depth_left spot.types.now spot.at source.bytes.now v rest

-- some value does
abbrev pub StandsThere : MessageBytes → Spot → Type 0
StandsThere source spot = (v : ValueTree) × (rest : List ℕ) × StandsAt source spot v rest

-- the offset after it
abbrev pub end_of : MessageBytes → Spot → ValueTree → ℕ
end_of source spot v = spot.at + length (spelling source.order spot.at v)

-- values whose types have this text stand in the bytes, one after another
pub record AllStand (order : Order) (depth_left : ℕ) (types : List ℕ) (at : ℕ) (bytes : List ℕ) (vs : ValueTrees) (rest : List ℕ) : Type 0 where
  pub text : sigs (types_of vs) ≡ types
  pub shaped : AreShaped (types_of vs)
  pub formed : AreWellFormed depth_left vs
  pub array : ℕ
  pub small : array < 256 ^ 4
  pub within : AreWithinLimits array order at vs
  pub spelled : drop at bytes ≡ spellings order at vs ++ rest
  pub inside : at ≤ length bytes

abbrev pub AllStandAt : MessageBytes → Spot → ValueTrees → (rest : List ℕ) → Type 0
AllStandAt source spot vs rest = AllStand source.order spot.depth_left spot.types.now spot.at source.bytes.now vs rest

abbrev pub AllStandThere : MessageBytes → Spot → Type 0
AllStandThere source spot = (vs : ValueTrees) × (rest : List ℕ) × AllStandAt source spot vs rest

-- the offset after them
abbrev pub end_of_all : MessageBytes → Spot → ValueTrees → ℕ
end_of_all source spot vs = spot.at + length (spellings source.order spot.at vs)

-- elements whose one type has this text stand in the bytes, one after another, up to an end
pub record ElementsStand (order : Order) (depth_left : ℕ) (types : List ℕ) (at end : ℕ) (bytes : List ℕ) (vs : ValueTrees) (rest : List ℕ) : Type 0 where
  pub type : TypeTree
  pub text : sig type ≡ types
  pub shaped : IsShaped true type
  pub all : AllOf type vs
  pub formed : AreWellFormed depth_left vs
  pub array : ℕ
  pub small : array < 256 ^ 4
  pub within : AreWithinLimits array order at vs
  pub spelled : drop at bytes ≡ spellings order at vs ++ rest
  pub ends : end ≡ at + length (spellings order at vs)
  pub inside : at ≤ length bytes

abbrev pub ElementsStandAt : MessageBytes → Spot → (end : ℕ) → ValueTrees → (rest : List ℕ) → Type 0
ElementsStandAt source spot end vs rest = ElementsStand source.order spot.depth_left spot.types.now spot.at end source.bytes.now vs rest

abbrev pub ElementsStandThere : MessageBytes → Spot → (end : ℕ) → Type 0
ElementsStandThere source spot end = (vs : ValueTrees) × (rest : List ℕ) × ElementsStandAt source spot end vs rest

-- Structs that open together: each but the first is the only field of the one around it.
-- D-Bus Specification, "Container types".

-- what stands between so many brackets and those that close them
abbrev pub between : ℕ → List ℕ → List ℕ
between n types = take (length types - n - n) (drop n types)

-- so many structs, whose types have these lengths, open where a type begins, and close where it
-- ends
pub record IsRow (types lengths : List ℕ) (row : ℕ) : Type 0 where
  pub opens : (k : ℕ) → k < row → get_or types k 0 ≡ 40
  pub ends : (k : ℕ) → k < row → get_or lengths k 0 ≡ length types - k - k
  pub long : row + row ≤ length types

-- what a struct or a dict entry holds around which so many others are open stands at a spot
abbrev pub FieldsStandAt : MessageBytes → Spot → (outer : ℕ) → ValueTrees → (rest : List ℕ) → Type 0
FieldsStandAt source spot outer vs rest = AllStand source.order (spot.depth_left - outer) (between (outer + 1) spot.types.now) spot.at source.bytes.now vs rest
