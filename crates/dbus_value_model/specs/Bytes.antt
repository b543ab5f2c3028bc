-- Trusted by the headline.
-- Bytes, padding, and numbers as bytes in either order.
-- D-Bus Specification, "Byte order and alignment".
use Rattle.std.specs.Prelude.{ℕ, suc, zero, ◌-◌, ◌/◌, ◌%◌, List, [], ◌∷◌, reverse, replicate}
use Rattle.dbus_value_model.specs.declared.order.Order.{Order}
use Rattle.dbus_value_model.specs.declared.order.Order.TheVariants.{Little, Big}

-- how far it is from o to the next multiple of a
unfoldable pub gap_to : ℕ → ℕ → ℕ
gap_to a o = (a - o % a) % a

-- the zeros from o to the next multiple of a
abbrev pub pad : ℕ → ℕ → List ℕ
pad a o = replicate (gap_to a o) 0

-- the lowest place first
unfoldable pub low_first : ℕ → ℕ → List ℕ
low_first zero n = []
low_first (suc w) n = n % 256 ∷ low_first w (n / 256)

-- a number in w bytes
unfoldable pub num : Order → ℕ → ℕ → List ℕ
num Little w n = low_first w n
num Big w n = reverse (low_first w n)
