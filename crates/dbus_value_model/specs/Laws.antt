-- The laws over the definitions of values. What makes each of them true is in proofs/.
-- D-Bus Specification, "Marshaling (Wire Format)".
use Rattle.std.specs.Prelude.{◌≡◌, ℕ, ◌+◌, ◌%◌, ◌^◌, ◌<◌, ◌≤◌, ◌↔◌, List, ◌++◌, length, Bool}
use Rattle.dbus_texts.specs.Types.{TypeTree, TypeTrees, IsShaped, AreShaped}
use Rattle.dbus_value_model.specs.declared.limits.Bounds.{Bounds}
use Rattle.dbus_value_model.specs.declared.order.Order.{Order}
use Rattle.dbus_value_model.specs.Bytes.{gap_to, num}
use Rattle.dbus_value_model.specs.ByteNumbers.{IsBytes}
use Rattle.dbus_value_model.specs.Values.{ValueTree, ValueTrees, type_of, IsWellFormed}
use Rattle.dbus_value_model.specs.Spelling.{spelling, IsWithinLimits, Spelled}
use Rattle.dbus_value_model.specs.declared.fault.Fault.{Fault}
use Rattle.dbus_value_model.specs.ValueItems.{value}
use Rattle.dbus_value_model.specs.Reading.{Done, Faulty}
use Rattle.dbus_value_model.specs.Reading as reading
use Rattle.dbus_value_model.specs.Outcomes.{IsDone, IsRefused, Outcomes}

-- what has a spelling at a place
pub record Spells (bounds : Bounds) (order : Order) (depth_left o : ℕ) (v : ValueTree) : Type 0 where
  pub formed : IsWellFormed depth_left v
  pub within : IsWithinLimits bounds.array order o v
  pub complete : (b : Bool) × IsShaped b (type_of v)

-- Of two values of one type neither's spelling begins the other's, and one spelling has one value.
abbrev pub OneValue : Type 0
OneValue = (bounds : Bounds) (order : Order) (depth_left o : ℕ) (v w : ValueTree) (x y : List ℕ) → Spells bounds order depth_left o v → Spells bounds order depth_left o w → type_of v ≡ type_of w
    → spelling order o v ++ x ≡ spelling order o w ++ y → (v ≡ w) × (x ≡ y)

-- Every list of bytes is one of Done, Refused and Partial.
abbrev pub OneOutcome : Type 0
OneOutcome = (bounds : Bounds) (order : Order) (depth_left end : ℕ) (ts : TypeTrees) (o : ℕ) (s : List ℕ) → AreShaped ts → o ≤ end → IsBytes s → Outcomes bounds order depth_left end ts o s

-- No more than one.
abbrev pub NotBoth : Type 0
NotBoth = (bounds : Bounds) (order : Order) (depth_left end : ℕ) (ts : TypeTrees) (o : ℕ) (s : List ℕ) (vs : ValueTrees) (q : ℕ) (r : List ℕ) (f : Fault) → AreShaped ts
    → IsDone bounds order depth_left end ts o s vs q r → IsRefused bounds order depth_left end ts o s f → ⊥

-- One place and reason.
abbrev pub OneFault : Type 0
OneFault = (bounds : Bounds) (order : Order) (depth_left end : ℕ) (ts : TypeTrees) (o : ℕ) (s : List ℕ) (f g : Fault) → AreShaped ts
    → IsRefused bounds order depth_left end ts o s f → IsRefused bounds order depth_left end ts o s g → f ≡ g

-- Whatever bytes follow.
abbrev pub RefusedForGood : Type 0
RefusedForGood = (bounds : Bounds) (order : Order) (depth_left end : ℕ) (ts : TypeTrees) (o : ℕ) (s c : List ℕ) (f : Fault) → AreShaped ts
    → IsRefused bounds order depth_left end ts o s f → IsRefused bounds order depth_left end ts o (s ++ c) f

abbrev pub DoneForGood : Type 0
DoneForGood = (bounds : Bounds) (order : Order) (depth_left end : ℕ) (ts : TypeTrees) (o : ℕ) (s c : List ℕ) (vs : ValueTrees) (q : ℕ) (r : List ℕ)
    → IsDone bounds order depth_left end ts o s vs q r → IsDone bounds order depth_left end ts o (s ++ c) vs q (r ++ c)

-- Reading answers what the relations say, both ways.
abbrev pub ReadsSpelled : Type 0
ReadsSpelled = (bounds : Bounds) (order : Order) (depth_left end : ℕ) (b : Bool) (t : TypeTree) (o : ℕ) (s : List ℕ) (v : ValueTree) (q : ℕ) (r : List ℕ) → IsShaped b t → IsBytes s
    → (reading.value bounds order depth_left end t o s ≡ Done v q r) ↔ Spelled bounds order depth_left end t o s v q r

abbrev pub ReadsFaults : Type 0
ReadsFaults = (bounds : Bounds) (order : Order) (depth_left end : ℕ) (b : Bool) (t : TypeTree) (o : ℕ) (s : List ℕ) (f : Fault) → IsShaped b t → IsBytes s
    → (reading.value bounds order depth_left end t o s ≡ Faulty f) ↔ (value bounds order depth_left end t).Refused o s f

-- k is the least number of bytes from o to a multiple of a
abbrev pub IsLeastGap : ℕ → ℕ → ℕ → Type 0
IsLeastGap a o k = ((o + k) % a ≡ 0) × ((j : ℕ) → (o + j) % a ≡ 0 → k ≤ j)

-- Padding is the least that reaches a boundary.
abbrev pub LeastPadding : Type 0
LeastPadding = (o : ℕ) → IsLeastGap 1 o (gap_to 1 o) × IsLeastGap 2 o (gap_to 2 o) × IsLeastGap 4 o (gap_to 4 o) × IsLeastGap 8 o (gap_to 8 o)

-- A number in w bytes is the sum of its places, the lowest place first in little order and last in
-- big.
abbrev pub NumberIsPlaceSum : Type 0
NumberIsPlaceSum = (order : Order) (w n : ℕ) → n < 256 ^ w → (length (num order w n) ≡ w) × (reading.number_of order (num order w n) ≡ n)
