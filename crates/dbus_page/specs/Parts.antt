-- Of which packets bytes are, and when these were captured, by parts that are of one packet.
use Rattle.std.specs.Prelude.{◌≡◌, ◌⊎◌, ℕ, ◌<◌, ◌≤◌, length, List, [], ◌∷◌, Option, None, Some}
use Rattle.dbus_device.specs.Packets.{Packets}
use Rattle.dbus_device.specs.declared.packet.Packet.{Packet}
use Rattle.dbus_capture.specs.declared.fault.CaptureFault.{CaptureFault}
use Rattle.dbus_page.specs.Places.{time_if}
use Rattle.dbus_page.specs.declared.unpacking.PagePart.{PagePart}
use Rattle.dbus_page.specs.declared.unpacking.Unpacked.{Unpacked}

-- the time that a packet has, if there is one
abbrev pub time_in : Option Packet → Option ℕ
time_in None = None
time_in (Some packet) = packet.time

-- its number, which is counted from 1; of none 0
abbrev pub number_in : Option Packet → ℕ
number_in None = 0
number_in (Some packet) = packet.number

abbrev pub time_of : PagePart → Option ℕ
time_of part = time_if part.has_time part.time

-- The parts are those of the bytes from a place on up to another: each begins where the one before it
-- ends, has bytes, all of one packet or of none, and has the number and the time of that packet.
abbrev pub AreParts : Packets → (begin : ℕ) → List PagePart → (end : ℕ) → Type 0
AreParts packets begin [] end = begin ≡ end
AreParts packets begin (part ∷ parts) end =
    (next : ℕ) × (part.start ≡ begin) × (begin < next) × ((i : ℕ) → begin ≤ i → i < next → packets i ≡ packets begin) × (part.packet ≡ number_in (packets begin)) × (time_of part ≡ time_in (packets begin))
    × AreParts packets next parts end

-- there is no more room: each byte of it, or each part, is filled
abbrev pub IsFull : (room : List ℕ) → (parts : List PagePart) → (bytes filled : ℕ) → Type 0
IsFull room parts bytes filled = (bytes ≡ length room) ⊎ (filled ≡ length parts)

-- the place of a file's fault, if it has one
abbrev pub IsFaultTold : Option CaptureFault → Unpacked → Type 0
IsFaultTold None told = (told.has_fault ≡ 0) × (told.at ≡ 0)
IsFaultTold (Some fault) told = (told.has_fault ≡ 1) × (told.at ≡ fault.at)
