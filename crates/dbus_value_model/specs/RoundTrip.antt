-- What was written is read back: the law that joins writing and reading.
-- D-Bus Specification, "Marshaling (Wire Format)".
use Rattle.std.specs.Prelude.{ℕ, List, drop, Result, Ok, Err, ◌≡◌, ◌≤◌, ◌++◌, length, Option, None}
use Rattle.dbus_texts.specs.Types.{TypeTree, IsSingleType}
use Rattle.dbus_value_model.specs.declared.limits.Bounds.{Bounds}
use Rattle.dbus_value_model.specs.declared.order.Order.{Order}
use Rattle.dbus_value_model.specs.declared.fault.Fault.{Fault}
use Rattle.dbus_value_model.specs.declared.fault.Refusal.{Refusal}
use Rattle.dbus_value_model.specs.declared.fault.Refusal.TheVariants.{Memory, Format}
use Rattle.dbus_value_model.specs.declared.got.Got.{Got}
use Rattle.dbus_value_model.specs.declared.got.Got.TheVariants.{Done, Partial}
use Rattle.dbus_value_model.specs.Values.{ValueTree, type_of}
use Rattle.dbus_value_model.specs.Spelling.{Spelled, spelling}
use Rattle.dbus_value_model.specs.ValueItems.{value}
use Rattle.dbus_value_model.specs.ValueViews.{value_tree}
use Rattle.dbus_value_model.specs.declared.limits.Limits.{Limits}
use Rattle.dbus_value_model.specs.FdIndexes.{AreIndexesBelow}
use Rattle.dbus_value_model.specs.Forming.{NestsWithin, IsUniform, IsNamed}
use Rattle.dbus_value_model.specs.Verdicts.{HoldsNumbers}
use Rattle.dbus_value_model.specs.Sizes.{sized}
use Rattle.dbus_value_model.specs.Bounds.{bounds_with}

-- What getting a value from bytes answers.
-- D-Bus Specification, "Marshaling (Wire Format)".

-- no value of the type is spelled by the bytes s, and no item of it shows a fault
pub record IsValuePartial (bounds : Bounds) (order : Order) (depth_left end : ℕ) (t : TypeTree) (at : ℕ) (s : List ℕ) : Type 0 where
  pub not_spelled : (v : ValueTree) (q : ℕ) (r : List ℕ) → Spelled bounds order depth_left end t at s v q r → ⊥
  pub not_refused : (f : Fault) → (value bounds order depth_left end t).Refused at s f → ⊥

-- Bytes from the message's first byte on; the value begins at `at`, and there is room for so many
-- more open containers.
abbrev pub Gets : {A : Type 0} → Bounds → Order → ℕ → ℕ → TypeTree → ℕ → List ℕ → Result (Got A) Refusal → Type 0
Gets bounds order depth_left end t at bytes (Ok (Done v q)) = Spelled bounds order depth_left end t at (drop at bytes) (value_tree v) q (drop q bytes)
Gets bounds order depth_left end t at bytes (Ok Partial) = IsValuePartial bounds order depth_left end t at (drop at bytes)
Gets bounds order depth_left end t at bytes (Err Memory) = Unit {0}
Gets bounds order depth_left end t at bytes (Err (Format f)) = (value bounds order depth_left end t).Refused at (drop at bytes) f

-- What passes a check where room more containers may be opened, as `check_value_within` says by its
-- clauses `checks` and `numbers`; and its indexes of descriptors are below fds, where that is
-- something, which no check asks.
pub record PassesCheck (depth_left : ℕ) (fds : Option ℕ) (v : ValueTree) : Type 0 where
  pub single : IsSingleType (type_of v)
  pub nests : NestsWithin depth_left v
  pub uniform : IsUniform v
  pub named : IsNamed v
  pub numbers : HoldsNumbers v
  pub indexes : AreIndexesBelow fds v

-- getting a value answered v, up to the place e, or that a growth was refused
abbrev pub GivesBack : {A : Type 0} → ValueTree → ℕ → Result (Got A) Refusal → Type 0
GivesBack v e (Ok (Done w q)) = (value_tree w ≡ v) × (q ≡ e)
GivesBack v e (Ok Partial) = ⊥
GivesBack v e (Err Memory) = Unit {0}
GivesBack v e (Err (Format f)) = ⊥

-- After any bytes, in either order and whatever follows: getting a value of its type where one was
-- put gives it back.
abbrev pub WrittenIsRead : Type 0 → Type 0
WrittenIsRead A = (limits : Limits) (fds : Option ℕ) (order : Order) (depth_left end e : ℕ) (v : ValueTree) (front more : List ℕ) (read : Result (Got A) Refusal)
    → PassesCheck depth_left fds v → length front ≤ limits.message → sized limits v None (length front) ≡ Ok e → e ≤ end
    → Gets (bounds_with limits fds) order depth_left end (type_of v) (length front) (front ++ spelling order (length front) v ++ more) read
    → GivesBack v e read
