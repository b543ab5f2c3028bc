-- The numbers of a capture, in its byte order.
use Rattle.std.specs.Prelude.{ℕ, ◌+◌, List, slice_range}
use Rattle.std.specs.Int.{w16, w32, from_le_bytes, from_be_bytes, to_le_bytes, to_be_bytes}
use Rattle.dbus_capture.specs.Types.{ByteOrder, Little, Big}

-- the number that four bytes are
abbrev pub u32_of : ByteOrder → List ℕ → ℕ
u32_of Little bytes = from_le_bytes w32 bytes
u32_of Big bytes = from_be_bytes w32 bytes

-- the number that two bytes are
abbrev pub u16_of : ByteOrder → List ℕ → ℕ
u16_of Little bytes = from_le_bytes w16 bytes
u16_of Big bytes = from_be_bytes w16 bytes

-- the numbers at a place of a head
abbrev pub u32_at : ByteOrder → ℕ → List ℕ → ℕ
u32_at order k head = u32_of order (slice_range head k (k + 4))

abbrev pub u16_at : ByteOrder → ℕ → List ℕ → ℕ
u16_at order k head = u16_of order (slice_range head k (k + 2))

-- the four bytes of a number
abbrev pub u32_bytes : ByteOrder → ℕ → List ℕ
u32_bytes Little n = to_le_bytes w32 n
u32_bytes Big n = to_be_bytes w32 n

-- the two bytes of a number
abbrev pub u16_bytes : ByteOrder → ℕ → List ℕ
u16_bytes Little n = to_le_bytes w16 n
u16_bytes Big n = to_be_bytes w16 n
