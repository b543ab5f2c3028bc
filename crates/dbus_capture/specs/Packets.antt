-- What is reported of a packet.
use Rattle.std.specs.Prelude.{◌≡◌, ◌+◌, ◌*◌, ◌^◌, ◌<◌, ℕ, zero, suc, true, List, ◌++◌, length, Option, Some, None, Result, Ok, Err}
use Rattle.dbus_capture.specs.Types.{Packet, DeviceFault, ByteOrder, Interface, Scan}
use Rattle.dbus_capture.specs.Scans.{place}
use Rattle.dbus_capture.specs.Heads.{record_time}
use Rattle.dbus_capture.specs.CutPackets.{whole_count}
use Rattle.dbus_capture.specs.PcapFiles.{PcapHeader, PcapPacket, pcap_bytes, captures}
use Rattle.dbus_capture.specs.Numbers.{u32_bytes}
use Rattle.dbus_capture.specs.Blocks.{time_of}
use Rattle.dbus_capture.specs.BlockFiles.{PacketForm, EnhancedHead, ObsoleteHead, SimpleHead, head_kind, head_bytes, FileSection, sections_bytes, sections_packets}

-- The packet of the bytes that were handed on last, after a read: the one that began last, if the
-- read gave any, and the one before it otherwise.
abbrev pub last_packet : Result ℕ DeviceFault → (began before : Option Packet) → Option Packet
last_packet (Ok zero) began before = before
last_packet (Ok (suc n)) began before = began
last_packet (Err e) began before = before

-- this is reported of the packet that began last
abbrev pub Reports : Scan → Packet → Type 0
Reports s packet = s.packet ≡ Some packet

-- of the packet that follows these; those that were cut have no number
abbrev pub pcap_packet_reported : PcapHeader → List PcapPacket → PcapPacket → Packet
pcap_packet_reported h packets p = record {
  number = place (whole_count true (captures packets) + 1);
  at = place (length (pcap_bytes h packets));
  time = Some (record_time h.nanoseconds p.seconds p.fraction);
  length = length p.bytes;
}

-- a time is spelled by two numbers
abbrev pub FitsTime : PacketForm → Type 0
FitsTime (EnhancedHead number high low) = (high < 2 ^ 32) × (low < 2 ^ 32)
FitsTime (ObsoleteHead number drops high low) = (high < 2 ^ 32) × (low < 2 ^ 32)
FitsTime SimpleHead = Unit {0}

abbrev pub head_time : Interface → PacketForm → Option ℕ
head_time i (EnhancedHead number high low) = time_of i (high * 2 ^ 32 + low)
head_time i (ObsoleteHead number drops high low) = time_of i (high * 2 ^ 32 + low)
head_time i SimpleHead = None

-- what comes before the bytes of a packet in its block, if all of them were captured
abbrev pub block_front : ByteOrder → PacketForm → (bytes rest : List ℕ) → List ℕ
block_front order form bytes rest =
    let head = head_bytes order form (length bytes) (length bytes) in
    (u32_bytes order (head_kind form) ++ u32_bytes order (12 + length (head ++ (bytes ++ rest)))) ++ head

-- of a packet of this interface, whose block follows these sections
abbrev pub pcapng_packet_reported : List FileSection → Interface → PacketForm → List ℕ → Packet
pcapng_packet_reported sections i form bytes = record {
  number = place (whole_count true (sections_packets sections) + 1);
  at = place (length (sections_bytes sections));
  time = head_time i form;
  length = length bytes;
}
