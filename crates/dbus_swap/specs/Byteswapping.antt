-- What becomes of a message's bytes when the values that stand there are byteswapped into the other
-- order. D-Bus Specification, "Marshaling (Wire Format)".
use Rattle.std.specs.Prelude.{◌≡◌, ℕ, ◌≤◌, List, ◌++◌, length, take, drop}
use Rattle.dbus_value_model.specs.declared.order.Order.{Order}
use Rattle.dbus_value_model.specs.declared.order.Order.TheVariants.{Little, Big}
use Rattle.dbus_swap.specs.declared.byteswapper.Byteswapper.{Byteswapper}

abbrev pub other : Order → Order
other Little = Big
other Big = Little

-- from an offset on these bytes stand now, with the rest after them, and before it all is as it was
abbrev pub IsPut : (at : ℕ) → (put rest before now : List ℕ) → Type 0
IsPut at put rest before now = now ≡ take at before ++ (put ++ rest)

-- if these bytes stood there from an offset on, then others stand there now, with the same rest
-- after them
abbrev pub Replaces : (at : ℕ) → (own put before now : List ℕ) → Type 0
Replaces at own put before now = (rest : List ℕ) → at ≤ length before → drop at before ≡ own ++ rest → IsPut at put rest before now

-- What a visitor does that byteswaps.
-- D-Bus Specification, "Marshaling (Wire Format)".

-- in the bytes that it byteswaps, these stand in place of those
pub record Byteswaps (at : ℕ) (own put : List ℕ) (before now : Byteswapper) : Type 0 where
  pub same : now.out.ghost_name ≡ before.out.ghost_name
  pub replaced : Replaces at own put before.out.now now.out.now

-- it does nothing
pub record Stays (before now : Byteswapper) : Type 0 where
  pub same : now.out.ghost_name ≡ before.out.ghost_name
  pub kept : now.out.now ≡ before.out.now
