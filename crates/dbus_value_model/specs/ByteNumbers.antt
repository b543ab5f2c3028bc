-- The numbers that bytes can be, and the number that bytes make by their places, in either order.
-- D-Bus Specification, "Marshaling (Wire Format)".
use Rattle.std.specs.Prelude.{ℕ, ◌+◌, ◌-◌, ◌*◌, ◌^◌, ◌<◌, List, [], ◌∷◌, slice_index, sum_by}
use Rattle.std.specs.List.{range_with_len}
use Rattle.dbus_value_model.specs.declared.order.Order.{Order}
use Rattle.dbus_value_model.specs.declared.order.Order.TheVariants.{Little, Big}

-- the numbers that a byte can be
abbrev pub IsBytes : List ℕ → Type 0
IsBytes [] = Unit {0}
IsBytes (b ∷ bs) = (b < 256) × IsBytes bs

-- the place of byte k of w bytes: 0 is the lowest
abbrev pub place_of : Order → ℕ → ℕ → ℕ
place_of Little w k = k
place_of Big w k = w - 1 - k

-- the number of the w bytes from `at` on: each byte times 256 to the power of its place
abbrev pub sum_of_places : Order → ℕ → ℕ → List ℕ → ℕ
sum_of_places order w at bytes = sum_by (λ k. slice_index bytes (at + k) * 256 ^ place_of order w k) (range_with_len 0 w)
