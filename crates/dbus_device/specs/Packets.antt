-- Of which packets the bytes of a device are.
use Rattle.std.specs.Prelude.{◌≡◌, ◌<◌, ◌+◌, ◌-◌, ℕ, nat_lt, if◌then◌else◌, Option, None, Some, Result, Ok, Err}
use Rattle.dbus_device.specs.declared.packet.Packet.{Packet}

-- the packet of each byte from some place on, by its number, if it is of one
abbrev pub Packets : Type 0
Packets = ℕ → Option Packet

-- no byte is of a packet
abbrev pub no_packets : Option Packets
no_packets = Some (λ n. None)

-- so many bytes of one packet, or of none, and then these
abbrev pub prepend_packets : ℕ → Option Packet → Option Packets → Option Packets
prepend_packets n packet None = None
prepend_packets n packet (Some rest) = Some (λ i. if nat_lt i n then packet else rest (i - n))

-- the same bytes, after so many of them, if their packets are known
abbrev pub PacketsAfter : ℕ → Option Packets → Option Packets → Type 0
PacketsAfter n None rest = Unit {0}
PacketsAfter n (Some packets) None = ⊥
PacketsAfter n (Some packets) (Some rest) = (i : ℕ) → rest i ≡ packets (n + i)

-- so many bytes are all of this packet, or of none, if their packets are known
abbrev pub AreOfPacket : ℕ → Option Packets → Option Packet → Type 0
AreOfPacket n None packet = Unit {0}
AreOfPacket n (Some packets) packet = (i : ℕ) → i < n → packets i ≡ packet

-- the bytes that a read gives are all of this packet, or of none; if it fails, none was taken
abbrev pub ReadsOfPacket : {E : Type 0} → (old new : Option Packets) → (packet : Option Packet) → Result ℕ E → Type 0
ReadsOfPacket old new packet (Ok n) = PacketsAfter n old new × AreOfPacket n old packet
ReadsOfPacket old new packet (Err e) = PacketsAfter 0 old new

-- a read that gives no byte leaves the packet of those that were read last
abbrev pub LeavesPacket : {E : Type 0} → (old new : Option Packet) → Result ℕ E → Type 0
LeavesPacket old new (Ok n) = n ≡ 0 → new ≡ old
LeavesPacket old new (Err e) = new ≡ old
