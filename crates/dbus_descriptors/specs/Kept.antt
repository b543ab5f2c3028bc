-- The descriptors that wait, as contracts see them, and what a message takes of them. D-Bus
-- Specification, "Header Fields" (UNIX_FDS).
use Rattle.std.specs.Prelude.{◌≡◌, ℕ, ◌<◌, ◌≤◌, nat_lt, max, List, [], ◌∷◌, ◌++◌, Bool, true, false, ◌||◌, length, take, drop}
use Rattle.dbus_descriptors.specs.Sharing.{AreOf, Row, descriptors_of}
use Rattle.dbus_descriptors.specs.declared.descriptors.MessageEnd.{MessageEnd}
use Rattle.dbus_descriptors.specs.declared.descriptors.Descriptors.{Descriptors}

-- what waits, how many may, up to where the stream was passed over, and whether nothing more is kept
-- and taken
pub record Kept (T : Type 0) : Type 0 where
  pub waiting : Row T
  pub most : ℕ
  pub passed : ℕ
  pub over : Bool

module _ {T : Type 0} where
  abbrev pub kept : Descriptors T → Kept T
  kept d = record { waiting = d.waiting.items; most = d.most; passed = d.passed; over = d.over }

  -- nothing more is kept or taken
  abbrev pub closed : Kept T → Kept T
  closed k = record k { over = true }

  -- one that came at this place is kept
  abbrev pub HasRoom : Kept T → (place : ℕ) → Type 0
  HasRoom k place = (k.over ≡ false) × (k.passed ≤ place) × (length k.waiting < k.most)

  -- the one that waits longest came before this place
  abbrev pub first_before : (place : ℕ) → Row T → Bool
  first_before place [] = false
  first_before place (d ∷ waiting) = nat_lt d.place place

  -- the stream up to this place is passed over: those that came there are nobody's
  abbrev pub passed_over : (end : ℕ) → Kept T → Kept T
  passed_over end k =
      let passed = max k.passed end in
      record k { passed = passed; over = k.over || first_before passed k.waiting }

  -- a message takes its own, the first of those that wait, and they are appended to others
  pub record TakesOwn (old new : Kept T) (m : MessageEnd) (others appended : List T) : Type 0 where
    pub goes_on : old.over ≡ false
    pub own : AreOf m (take m.count old.waiting)
    pub left : new ≡ record old { waiting = drop m.count old.waiting }
    pub given : appended ≡ others ++ descriptors_of (take m.count old.waiting)
