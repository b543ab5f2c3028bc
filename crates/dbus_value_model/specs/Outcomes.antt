-- The three outcomes where values of some types are wanted: they are spelled, or a fault shows, or
-- neither. D-Bus Specification, "Marshaling (Wire Format)".
use Rattle.std.specs.Prelude.{◌≡◌, ℕ, ◌+◌, List, ◌++◌, length, ◌≤◌, ◌⊎◌}
use Rattle.dbus_texts.specs.Types.{TypeTrees}
use Rattle.dbus_value_model.specs.declared.order.Order.{Order}
use Rattle.dbus_value_model.specs.declared.limits.Bounds.{Bounds}
use Rattle.dbus_value_model.specs.FdIndexes.{AreAllBelow}
use Rattle.dbus_value_model.specs.Values.{ValueTrees, AreWellFormed, types_of}
use Rattle.dbus_value_model.specs.Spelling.{spellings, AreWithinLimits}
use Rattle.dbus_value_model.specs.declared.fault.Fault.{Fault}
use Rattle.dbus_value_model.specs.ValueItems.{value, fields}

-- Values that are spelled one after another.
-- D-Bus Specification, "Marshaling (Wire Format)".

-- Values one after another, each where the one before ended.
pub record SpelledAll (bounds : Bounds) (order : Order) (depth_left : ℕ) (o : ℕ) (s : List ℕ) (vs : ValueTrees) (q : ℕ) (r : List ℕ) : Type 0 where
  pub formed : AreWellFormed depth_left vs
  pub within : AreWithinLimits bounds.array order o vs
  pub indexes : AreAllBelow bounds.fds vs
  pub bytes : s ≡ spellings order o vs ++ r
  pub place : q ≡ o + length (spellings order o vs)

-- values of these types are spelled, one after another, up to q
pub record IsDone (bounds : Bounds) (order : Order) (depth_left end : ℕ) (ts : TypeTrees) (o : ℕ) (s : List ℕ) (vs : ValueTrees) (q : ℕ) (r : List ℕ) : Type 0 where
  pub types : types_of vs ≡ ts
  pub spelled : SpelledAll bounds order depth_left o s vs q r
  pub bound : q ≤ end

-- the item that is wanted next shows a fault
abbrev pub IsRefused : Bounds → Order → ℕ → ℕ → TypeTrees → ℕ → List ℕ → Fault → Type 0
IsRefused bounds order depth_left end ts o s f = (fields (value bounds order depth_left end) ts).Refused o s f

-- neither
pub record IsPartial (bounds : Bounds) (order : Order) (depth_left end : ℕ) (ts : TypeTrees) (o : ℕ) (s : List ℕ) : Type 0 where
  pub not_done : (vs : ValueTrees) (q : ℕ) (r : List ℕ) → IsDone bounds order depth_left end ts o s vs q r → ⊥
  pub not_refused : (f : Fault) → IsRefused bounds order depth_left end ts o s f → ⊥

abbrev pub Outcomes : Bounds → Order → ℕ → ℕ → TypeTrees → ℕ → List ℕ → Type 0
Outcomes bounds order depth_left end ts o s =
    ((vs : ValueTrees) × (q : ℕ) × (r : List ℕ) × IsDone bounds order depth_left end ts o s vs q r)
    ⊎ (((f : Fault) × IsRefused bounds order depth_left end ts o s f) ⊎ IsPartial bounds order depth_left end ts o s)
