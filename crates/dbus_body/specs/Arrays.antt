-- An array whose elements are spelled where they stand, and its length after them.
-- D-Bus Specification, "Marshaling (Wire Format)".
use Rattle.std.specs.Prelude.{ℕ, ◌+◌, ◌-◌, ◌≤◌, List, ◌++◌, length, replicate, take, drop, ◌≡◌, ◌<◌, Option, Some, None, ◌^◌}
use Rattle.dbus_value_model.specs.declared.order.Order.{Order}
use Rattle.dbus_value_model.specs.SizeLimits.{with_padding}
use Rattle.dbus_value_model.specs.Bytes.{num}
use Rattle.dbus_body.specs.declared.arrays.OpenArray.{OpenArray}
use Rattle.dbus_body.specs.declared.put_fault.PutFault.{PutFault}
use Rattle.dbus_body.specs.declared.put_fault.PutFault.TheVariants.{Memory, TooLong, NotOpen}

-- bytes with what stands before the elements, which are aligned so: four zeros are in the place of
-- the length
abbrev pub opened : (alignment : ℕ) → (front : List ℕ) → List ℕ
opened alignment front = with_padding alignment (with_padding 4 front ++ replicate 4 0)

-- where the length is, and where the elements begin
abbrev pub place_of : (alignment : ℕ) → (front : List ℕ) → OpenArray
place_of alignment front = record { length_at = length (with_padding 4 front); start = length (opened alignment front) }

-- the bytes have the length and what follows it up to the elements
abbrev pub IsOpen : OpenArray → List ℕ → Type 0
IsOpen a s = (a.length_at + 4 ≤ a.start) × (a.start ≤ length s)

-- the bytes with the length of all that stands from the first element on
abbrev pub closed : Order → OpenArray → List ℕ → List ℕ
closed order a s = take a.length_at s ++ (num order 4 (length s - a.start) ++ drop (a.length_at + 4) s)

-- What a call puts after bytes that stand in others, which do not grow.
-- D-Bus Specification, "Marshaling (Wire Format)".

-- so many bytes, from the first on, get more after them, up to this end; or there is too little
-- room, and all stays
abbrev pub Puts : (with_more : List ℕ → List ℕ) → (at : ℕ) → (old : List ℕ) → Option ℕ → (new : List ℕ) → Type 0
Puts with_more at old (Some end) new = (at ≤ length old) × (end ≤ length new) × (take end new ≡ with_more (take at old))
Puts with_more at old None new = (at ≤ length old → length old < length (with_more (take at old))) × (new ≡ old)

-- Why nothing is appended.
-- D-Bus Specification, "Marshaling (Wire Format)".

-- a text of so many bytes, where the length can say fewer than count, or there is less capacity
-- than what it ends at
abbrev pub IsTextRefused : (count size capacity end : ℕ) → PutFault → Type 0
IsTextRefused count size capacity end Memory = capacity < end
IsTextRefused count size capacity end TooLong = count ≤ size
IsTextRefused count size capacity end NotOpen = ⊥

-- the length can be written
abbrev pub IsLengthWritten : OpenArray → List ℕ → Type 0
IsLengthWritten a s = IsOpen a s × (length s - a.start < 2 ^ 32)

abbrev pub IsArrayRefused : OpenArray → List ℕ → PutFault → Type 0
IsArrayRefused a s Memory = ⊥
IsArrayRefused a s TooLong = 2 ^ 32 ≤ length s - a.start
IsArrayRefused a s NotOpen = IsOpen a s → ⊥
