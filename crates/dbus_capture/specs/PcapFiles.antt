-- Which bytes are a pcap file of D-Bus packets. "PCAP Capture File Format", "File Header" and
-- "Packet Record".
use Rattle.std.specs.Prelude.{◌≡◌, ℕ, ◌<◌, ◌^◌, Bool, true, false, List, [], ◌∷◌, ◌++◌, length}
use Rattle.dbus_capture.specs.Types.{ByteOrder}
use Rattle.dbus_capture.specs.Numbers.{u32_bytes, u16_bytes}
use Rattle.dbus_capture.specs.CutPackets.{Captured}

-- What the header of a file says. The twelve bytes of its two reserved fields and its snap length
-- may be any.
pub record PcapHeader : Type 0 where
  pub order : ByteOrder
  -- whether fractions of seconds are nanoseconds, not microseconds
  pub nanoseconds : Bool
  pub unread : List ℕ

-- a packet that had so many bytes, of which these were captured
pub record PcapPacket : Type 0 where
  pub seconds : ℕ
  pub fraction : ℕ
  pub original : ℕ
  pub bytes : List ℕ

abbrev pub magic_number : Bool → ℕ
magic_number true = 0xa1b23c4d
magic_number false = 0xa1b2c3d4

-- the header of a file of version 2.4 and link type 231, D-Bus
abbrev pub header_bytes : PcapHeader → List ℕ
header_bytes h = u32_bytes h.order (magic_number h.nanoseconds) ++ (u16_bytes h.order 2 ++ (u16_bytes h.order 4 ++ (h.unread ++ u32_bytes h.order 231)))

-- the header of a packet
abbrev pub packet_header_bytes : ByteOrder → PcapPacket → List ℕ
packet_header_bytes order p = u32_bytes order p.seconds ++ (u32_bytes order p.fraction ++ (u32_bytes order (length p.bytes) ++ u32_bytes order p.original))

abbrev pub packets_bytes : ByteOrder → List PcapPacket → List ℕ
packets_bytes order [] = []
packets_bytes order (p ∷ packets) = packet_header_bytes order p ++ (p.bytes ++ packets_bytes order packets)

-- the bytes of a file
abbrev pub pcap_bytes : PcapHeader → List PcapPacket → List ℕ
pcap_bytes h packets = header_bytes h ++ packets_bytes h.order packets

-- how its packets were captured
abbrev pub capture_of : PcapPacket → Captured
capture_of p = record { original = p.original; bytes = p.bytes }

abbrev pub captures : List PcapPacket → List Captured
captures [] = []
captures (p ∷ packets) = capture_of p ∷ captures packets

-- what has a spelling
pub record FitsHeader (h : PcapHeader) : Type 0 where
  pub unread : length h.unread ≡ 12

pub record FitsPacket (p : PcapPacket) : Type 0 where
  pub seconds : p.seconds < 2 ^ 32
  pub fraction : p.fraction < 2 ^ 32
  pub original : p.original < 2 ^ 32

abbrev pub AllFitPackets : List PcapPacket → Type 0
AllFitPackets [] = Unit {0}
AllFitPackets (p ∷ packets) = FitsPacket p × AllFitPackets packets
