-- What the heads of a pcap file say. "PCAP Capture File Format", "File Header" and "Packet Record".
use Rattle.std.specs.Prelude.{ℕ, ◌+◌, ◌-◌, ◌*◌, ◌^◌, ◌&&◌, ◌==◌, nat_lt, Bool, true, false, if◌then◌else◌, List, [], Option, Some, None}
use Rattle.dbus_capture.specs.Types.{Record, ByteOrder, Little, Big, Magic, Version, LinkType, Lengths, PacketCut, Packet, PacketHead, Scan}
use Rattle.dbus_capture.specs.Stages.{begun, is_front, front_before, after_front}
use Rattle.dbus_capture.specs.Scans.{place, refused}
use Rattle.dbus_capture.specs.Numbers.{u32_at, u16_at}
use Rattle.dbus_capture.specs.CutPackets.{stated}

-- the order, and whether fractions of seconds are nanoseconds, of the magic number as a
-- little-endian machine reads it
abbrev pub magic : ℕ → Option (ByteOrder × Bool)
magic n = if n == 0xa1b2c3d4 then Some (Little, false)
    else (if n == 0xa1b23c4d then Some (Little, true)
    else (if n == 0xd4c3b2a1 then Some (Big, false)
    else (if n == 0x4d3cb2a1 then Some (Big, true) else None)))

-- a file's header whose numbers have this order
abbrev pub file_header_in : Scan → List ℕ → ByteOrder → Bool → Scan
file_header_in s head order nanoseconds =
    if (u16_at order 4 head == 2) && (u16_at order 6 head == 4)
    then (if u32_at order 20 head == 231
    then record s { head = begun Record; next = place (s.next + 24); order = order; nanoseconds = nanoseconds }
    else refused s 20 LinkType)
    else refused s 4 Version

abbrev pub file_header_by : Scan → List ℕ → Option (ByteOrder × Bool) → Scan
file_header_by s head None = refused s 0 Magic
file_header_by s head (Some m) = file_header_in s head m.0 m.1

-- a file's header
abbrev pub file_header : Scan → List ℕ → Scan
file_header s head = file_header_by s head (magic (u32_at Little 0 head))

-- nanoseconds since 1970
abbrev pub record_time : Bool → ℕ → ℕ → ℕ
record_time true seconds fraction = seconds * 1000000000 + fraction
record_time false seconds fraction = seconds * 1000000000 + fraction * 1000

-- a packet begins
abbrev pub packet_of : Scan → PacketHead → Packet
packet_of s p = record { number = place (s.packets + 1); at = place (s.next + 2 ^ 64 - p.before); time = p.time; length = p.captured }

-- so many bytes of it come, and then what is passed over
abbrev pub give_packet : Scan → PacketHead → Scan
give_packet s p = record s {
  give = p.captured;
  skip = p.room - p.captured;
  next = place (s.next + (p.size + p.room));
  packets = place (s.packets + 1);
  packet = Some (packet_of s p);
}

-- the first of them are looked at before they are handed on
abbrev pub front_packet : Scan → PacketHead → Scan
front_packet s p = record s {
  head = begun (front_before s.head.stage);
  next = place (s.next + p.size);
  rest = p.captured;
  behind = p.room - p.captured;
  packet = Some (packet_of s p);
}

-- a packet is passed over
abbrev pub pass_packet : Scan → (size room : ℕ) → Scan
pass_packet s size room = record s { skip = room; next = place (s.next + (size + room)); passed_over = place (s.passed_over + 1) }

-- one that was cut is passed over, or refused at this place
abbrev pub cut_packet : Scan → (size room k : ℕ) → Scan
cut_packet s size room k = if s.passes_cut then record (pass_packet s size room) { cut = place (s.cut + 1) } else refused s k PacketCut

-- So many bytes of a packet were captured, which had so many. Its first bytes say whether it is one
-- message, if each packet before it was.
abbrev pub packet_head : Scan → PacketHead → Scan
packet_head s p = if nat_lt p.original p.captured then refused s p.original_at Lengths
    else (if nat_lt p.captured p.original then cut_packet s p.size p.room p.captured_at
    else (if s.alone && nat_lt 0 p.captured
    then (if nat_lt p.captured 16 then cut_packet s p.size p.room p.size else front_packet s p)
    else give_packet s p))

-- the first bytes of a packet are handed on at the last of them, if it has as many as they state
abbrev pub front_out : Scan → List ℕ → List ℕ
front_out s front = if is_front s.head.stage then (if nat_lt s.rest (stated front) then [] else front) else []

-- and then its other bytes
abbrev pub front_head : Scan → List ℕ → Scan
front_head s front =
    let t = record s { head = begun (after_front s.head.stage) } in
    if nat_lt s.rest (stated front) then cut_packet t 16 (s.rest - 16 + s.behind) 0
    else record t {
      give = s.rest - 16;
      skip = s.behind;
      next = place (s.next + (s.rest + s.behind));
      packets = place (s.packets + 1);
      alone = s.rest == stated front;
    }

-- the header of a packet
abbrev pub record_head : Scan → List ℕ → Scan
record_head s head = packet_head s (record {
  before = 0;
  size = 16;
  captured_at = 8;
  original_at = 12;
  room = u32_at s.order 8 head;
  time = Some (record_time s.nanoseconds (u32_at s.order 0 head) (u32_at s.order 4 head));
  captured = u32_at s.order 8 head;
  original = u32_at s.order 12 head;
})
