-- What was dropped of a refused message, and how many bytes it has by that. D-Bus Specification,
-- "Message Format".
use Rattle.std.specs.Prelude.{◌≡◌, ℕ, ◌≤◌, List, length, take}
use Rattle.dbus_value_model.specs.declared.limits.Limits.{Limits}
use Rattle.dbus_stream.specs.StatedSizes.{StatesNone, StatesSize, WantsMore}
use Rattle.dbus_stream.specs.declared.refused.Refused.{Refused}
use Rattle.dbus_stream.specs.declared.refused.Size.{Size}
use Rattle.dbus_stream.specs.declared.refused.Size.TheVariants.{There, Wanted, Unstated}

-- these bytes of a message were dropped: how many, and which are the first
pub record HasDropped (r : Refused) (gone : List ℕ) : Type 0 where
  pub count : r.dropped ≡ length gone
  pub front : take 16 gone ≡ take r.dropped r.front

-- whether bytes are all of a message that begins with them
abbrev pub Sizes : Limits → List ℕ → Size → Type 0
Sizes limits b (There n) = StatesSize limits b n × (n ≤ length b)
Sizes limits b Wanted = WantsMore limits b
Sizes limits b Unstated = StatesNone limits b

-- no more bytes of it than it has
abbrev pub AreInside : Limits → List ℕ → Type 0
AreInside limits gone = (n : ℕ) → StatesSize limits gone n → length gone ≤ n
