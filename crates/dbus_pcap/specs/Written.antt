-- Which pcap file is written of messages. "PCAP Capture File Format", "File Header" and "Packet
-- Record".
use Rattle.std.specs.Prelude.{◌≡◌, ℕ, ◌<◌, ◌≤◌, ◌^◌, ◌/◌, ◌%◌, min, List, [], ◌∷◌, ◌++◌, true, length, map, Option, Some, None}
use Rattle.dbus_capture.specs.declared.byte_order.ByteOrder.TheVariants.{Little}
use Rattle.dbus_capture.specs.Numbers.{u32_bytes}
use Rattle.dbus_capture.specs.CutPackets.{stated}
use Rattle.dbus_capture.specs.PcapFiles.{PcapHeader, PcapPacket, pcap_bytes}

-- a message, and when it was captured, in nanoseconds since 1970, if that is known
pub record CapturedMessage : Type 0 where
  pub time : Option ℕ
  pub bytes : List ℕ

-- the header: fractions of seconds are nanoseconds, the reserved fields are 0, and a packet has at
-- most 2^27 bytes, as a message has
abbrev pub written_header : PcapHeader
written_header = record { order = Little; nanoseconds = true; unread = u32_bytes Little 0 ++ (u32_bytes Little 0 ++ u32_bytes Little 134217728) }

-- the last time that 32 bits of seconds reach
abbrev pub last_time : ℕ
last_time = 4294967295999999999

-- the time that is written: 0 if none is known, and at most the last
abbrev pub written_time : Option ℕ → ℕ
written_time None = 0
written_time (Some time) = min time last_time

-- the packet of a message
abbrev pub packet_of : CapturedMessage → PcapPacket
packet_of m = record { seconds = written_time m.time / 1000000000; fraction = written_time m.time % 1000000000; original = length m.bytes; bytes = m.bytes }

-- the file of messages
abbrev pub file_of : List CapturedMessage → List ℕ
file_of messages = pcap_bytes written_header (map packet_of messages)

-- the messages, one after the other
abbrev pub messages_bytes : List CapturedMessage → List ℕ
messages_bytes [] = []
messages_bytes (m ∷ messages) = m.bytes ++ messages_bytes messages

-- a message has as many bytes as its first 16 state
pub record FitsMessage (m : CapturedMessage) : Type 0 where
  pub size : stated m.bytes ≡ length m.bytes
  pub least : 16 ≤ length m.bytes
  pub most : length m.bytes < 2 ^ 32

abbrev pub AllFit : List CapturedMessage → Type 0
AllFit [] = Unit {0}
AllFit (m ∷ messages) = FitsMessage m × AllFit messages
