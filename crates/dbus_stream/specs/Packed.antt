-- Whether bytes of a packet were read.
use Rattle.std.specs.Prelude.{◌≡◌, ℕ, Bool, true, false, Option, None, Some, is_some}
use Rattle.dbus_device.specs.declared.packet.Packet.{Packet}

-- after one more read, whose bytes are of this packet, or of none
abbrev pub is_packed : Bool → Option Packet → Bool
is_packed true packet = true
is_packed false packet = is_some packet

-- the number of a packet, if there is one
abbrev pub number_of : Option Packet → Option ℕ
number_of None = None
number_of (Some packet) = Some packet.number

-- it is not of this number
abbrev pub IsOther : (number : ℕ) → Option Packet → Type 0
IsOther number packet = number_of packet ≡ Some number → ⊥
