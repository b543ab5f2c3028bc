-- What the heads of a pcapng file say. "PCAP Now Generic (pcapng) Capture File Format", "General
-- File Structure" and "Block Definition".
use Rattle.std.specs.Prelude.{ℕ, ◌+◌, ◌-◌, ◌*◌, ◌/◌, ◌^◌, ◌%◌, ◌&&◌, ◌||◌, ◌==◌, nat_lt, nat_le, Bool, true, false, if◌then◌else◌, List, [], ◌∷◌, ◌++◌, length, slice_get, slice_index, Option, Some, None}
use Rattle.dbus_capture.specs.Types.{Stage, Raw, FileHeader, Record, Section, Block, InterfaceHead, OptionHead, Resolution}
use Rattle.dbus_capture.specs.Types.{InterfaceTrailer, Enhanced, ObsoletePacket, Simple, RecordFront, BlockFront, Trailer, ByteOrder, Little, Big, Magic, Version}
use Rattle.dbus_capture.specs.Types.{Lengths, BlockLength, BlockLengths, OrderMark, OptionLength, TooManyInterfaces, NoInterface, Interface}
use Rattle.dbus_capture.specs.Types.{PacketHead, Scan}
use Rattle.dbus_capture.specs.Stages.{begun}
use Rattle.dbus_capture.specs.Scans.{place, refused}
use Rattle.dbus_capture.specs.Heads.{file_header, record_head, pass_packet, packet_head, front_head}
use Rattle.dbus_capture.specs.Numbers.{u32_at, u16_at}

-- a length, up to a multiple of four
abbrev pub padded : ℕ → ℕ
padded n = (n + 3) / 4 * 4

-- a block may have this length, if such a block has at least so many bytes
abbrev pub is_length : ℕ → ℕ → Bool
is_length least total = (total % 4 == 0) && nat_le least total

-- ---- a section

abbrev pub order_mark : ℕ → Option ByteOrder
order_mark n = if n == 0x1a2b3c4d then Some Little else (if n == 0x4d3c2b1a then Some Big else None)

-- the first block of a section, in this order: the interfaces before it are forgotten, and its
-- options are passed over
abbrev pub section_in : Scan → List ℕ → ByteOrder → Scan
section_in s head order =
    let total = u32_at order 4 head in
    if (u16_at order 12 head == 1) && ((u16_at order 14 head == 0) || (u16_at order 14 head == 2))
    then (if is_length 28 total
    then record s { head = begun Trailer; skip = total - 28; next = place (s.next + (total - 4)); order = order; total = total; interfaces = [] }
    else refused s 4 BlockLength)
    else refused s 12 Version

abbrev pub section_by : Scan → List ℕ → Option ByteOrder → Scan
section_by s head None = refused s 8 OrderMark
section_by s head (Some order) = section_in s head order

abbrev pub section_head : Scan → List ℕ → Scan
section_head s head = if u32_at Little 0 head == 0x0a0d0d0a then section_by s head (order_mark (u32_at Little 8 head)) else refused s 0 Magic

-- ---- the beginning and the end of a block

-- which head comes in a block of this type, if it is read, and how many bytes it has at least
abbrev pub block_stage : ℕ → Option (Stage × ℕ)
block_stage kind = if kind == 1 then Some (InterfaceHead, 20)
    else (if kind == 2 then Some (ObsoletePacket, 32)
    else (if kind == 3 then Some (Simple, 16)
    else (if kind == 6 then Some (Enhanced, 32) else None)))

-- a block of another type is passed over
abbrev pub block_by : Scan → ℕ → Option (Stage × ℕ) → Scan
block_by s total None = if is_length 12 total
    then record s { head = begun Trailer; skip = total - 12; next = place (s.next + (total - 4)); total = total }
    else refused s 4 BlockLength
block_by s total (Some k) = if is_length k.1 total
    then record s { head = begun k.0; next = place (s.next + 8); total = total; rest = total - 20 }
    else refused s 4 BlockLength

abbrev pub block_head : Scan → List ℕ → Scan
block_head s head = if u32_at s.order 0 head == 0x0a0d0d0a then record s { head = record { stage = Section; bytes = head } }
    else block_by s (u32_at s.order 4 head) (block_stage (u32_at s.order 0 head))

abbrev pub trailer : Scan → List ℕ → Scan
trailer s head = if u32_at s.order 0 head == s.total then record s { head = begun Block; next = place (s.next + 4) } else refused s 0 BlockLengths

-- ---- an interface

-- which head comes after an option, if so many bytes of the options are left
abbrev pub after_option : ℕ → Stage
after_option rest = if rest == 0 then InterfaceTrailer else OptionHead

abbrev pub interface_head : Scan → List ℕ → Scan
interface_head s head = record s {
  head = begun (after_option s.rest);
  next = place (s.next + 8);
  interface = record { link_type = u16_at s.order 0 head; snap_length = u32_at s.order 4 head; resolution = 6; has_offset = false };
}

-- an option is passed over, with so many bytes
abbrev pub pass_option : Scan → ℕ → Interface → Scan
pass_option s size interface = record s {
  head = begun (after_option (s.rest - 4 - size));
  skip = size;
  next = place (s.next + (4 + size));
  rest = s.rest - 4 - size;
  interface = interface;
}

-- an option of this code and length: 0 ends the options, 9 is `if_tsresol`, the unit of times, and
-- 14 is `if_tsoffset`, what they count from
abbrev pub option_in : Scan → ℕ → ℕ → Scan
option_in s code size = if code == 0 then record s { head = begun InterfaceTrailer; skip = s.rest - 4; next = place (s.next + s.rest); rest = 0 }
    else (if nat_lt (s.rest - 4) (padded size) then refused s 2 OptionLength
    else (if code == 9 then (if size == 1
    then record s { head = begun Resolution; next = place (s.next + 4); rest = s.rest - 8 }
    else refused s 2 OptionLength)
    else (if code == 14 then pass_option s (padded size) (record s.interface { has_offset = true }) else pass_option s (padded size) s.interface)))

abbrev pub option_head : Scan → List ℕ → Scan
option_head s head = option_in s (u16_at s.order 0 head) (u16_at s.order 2 head)

abbrev pub resolution_head : Scan → List ℕ → Scan
resolution_head s head = record s {
  head = begun (after_option s.rest);
  next = place (s.next + 4);
  interface = record s.interface { resolution = slice_index head 0 };
}

abbrev pub interface_trailer : Scan → List ℕ → Scan
interface_trailer s head = if u32_at s.order 0 head == s.total
    then (if nat_le 64 (length s.interfaces) then refused s 0 TooManyInterfaces
    else record s { head = begun Block; next = place (s.next + 4); interfaces = s.interfaces ++ s.interface ∷ [] })
    else refused s 0 BlockLengths

-- ---- a packet

-- nanoseconds, if they fit
abbrev pub fitting : ℕ → Option ℕ
fitting n = if nat_lt n (2 ^ 64) then Some n else None

-- Nanoseconds since 1970. They are reported only of times that count from 1970, in units that are a
-- power of ten and no shorter than a nanosecond.
abbrev pub time_of : Interface → ℕ → Option ℕ
time_of i units = if i.has_offset then None else (if nat_le i.resolution 9 then fitting (units * 10 ^ (9 - i.resolution)) else None)

-- a packet of another link type is passed over
abbrev pub block_packet : Scan → ℕ → PacketHead → Scan
block_packet s link_type p = if nat_lt p.room (padded p.captured) then refused s p.captured_at Lengths
    else (let t = record s { head = begun Trailer } in if link_type == 231 then packet_head t p else pass_packet t p.size p.room)

-- the packet of an enhanced or an obsolete packet block
abbrev pub enhanced_of : Scan → List ℕ → Interface → PacketHead
enhanced_of s head i = record {
  before = 8;
  size = 20;
  captured_at = 12;
  original_at = 12;
  room = s.total - 32;
  time = time_of i (u32_at s.order 4 head * 2 ^ 32 + u32_at s.order 8 head);
  captured = u32_at s.order 12 head;
  original = u32_at s.order 16 head;
}

abbrev pub enhanced_by : Scan → List ℕ → Option Interface → Scan
enhanced_by s head None = refused s 0 NoInterface
enhanced_by s head (Some i) = block_packet s i.link_type (enhanced_of s head i)

abbrev pub enhanced_head : Scan → List ℕ → Scan
enhanced_head s head = enhanced_by s head (slice_get s.interfaces (u32_at s.order 0 head))

abbrev pub obsolete_head : Scan → List ℕ → Scan
obsolete_head s head = enhanced_by s head (slice_get s.interfaces (u16_at s.order 0 head))

-- how much of a packet the first interface captures
abbrev pub captured_length : ℕ → ℕ → ℕ
captured_length snap_length original = if (snap_length == 0) || nat_le original snap_length then original else snap_length

abbrev pub simple_by : Scan → List ℕ → Option Interface → Scan
simple_by s head None = refused s 0 NoInterface
simple_by s head (Some i) =
    let original = u32_at s.order 0 head in
    block_packet s i.link_type (record {
      before = 8;
      size = 4;
      captured_at = 0;
      original_at = 0;
      room = s.total - 16;
      time = None;
      captured = captured_length i.snap_length original;
      original = original;
    })

abbrev pub simple_head : Scan → List ℕ → Scan
simple_head s head = simple_by s head (slice_get s.interfaces 0)

-- ---- what a head says

abbrev pub decoded_by : Stage → Scan → List ℕ → Scan
decoded_by Raw s head = s
decoded_by FileHeader s head = file_header s head
decoded_by Record s head = record_head s head
decoded_by Section s head = section_head s head
decoded_by Block s head = block_head s head
decoded_by InterfaceHead s head = interface_head s head
decoded_by OptionHead s head = option_head s head
decoded_by Resolution s head = resolution_head s head
decoded_by InterfaceTrailer s head = interface_trailer s head
decoded_by Enhanced s head = enhanced_head s head
decoded_by ObsoletePacket s head = obsolete_head s head
decoded_by Simple s head = simple_head s head
decoded_by RecordFront s head = front_head s head
decoded_by BlockFront s head = front_head s head
decoded_by Trailer s head = trailer s head

unfoldable pub decoded : Scan → List ℕ → Scan
decoded s head = decoded_by s.head.stage s head
