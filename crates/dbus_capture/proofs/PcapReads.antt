-- A pcap file is read as it is spelled.
use Rattle.std.proofs.Common.{◌-◌, ◌≡◌, ℕ, ◌+◌, ◌<◌, ◌≤◌, ◌^◌, Bool, true, false, List, [], ◌∷◌, ◌++◌, length, None, Some, refl, sym, ap, subst, ◌∙◌, arith, append_assoc, append-nil, length-append}
use Rattle.dbus_capture.specs.Types.{ByteOrder, Little, Big, FileHeader, Record, Scan, PacketHead}
use Rattle.dbus_capture.specs.Numbers.{u32_bytes, u16_bytes, u32_at, u16_at}
use Rattle.dbus_capture.specs.Stages.{begun}
use Rattle.dbus_capture.specs.Beginnings.{first_stage, first_scan}
use Rattle.dbus_capture.specs.Scans.{place, fresh}
use Rattle.dbus_capture.specs.Heads.{magic, record_time, packet_head}
use Rattle.dbus_capture.specs.CutPackets.{Captured, IsCaptured, AreCaptured, alone_all, whole_payload}
use Rattle.dbus_capture.specs.PcapFiles.{PcapHeader, PcapPacket, magic_number, header_bytes, packet_header_bytes, packets_bytes, pcap_bytes, capture_of, captures, FitsHeader, FitsPacket, AllFitPackets}
use Rattle.dbus_capture.specs.Steps.{packet_given, Leads}
use Rattle.dbus_capture.specs.Reading.{IsReadOf}
use Rattle.dbus_capture.specs.Packets.{pcap_packet_reported}
use Rattle.dbus_capture.proofs.NumberLaws.{u32_size, u16_size, u32_again, u32_last}
use Rattle.dbus_capture.proofs.FirstLaws.{first_front, begins_pcap}
use Rattle.dbus_capture.proofs.StepLaws.{lead_then, lead_to}
use Rattle.dbus_capture.proofs.Leads.{head_leads, Went, went_nothing, went_then, went_on, fronted_record, packet_went, read_whole, Begins, whole_begins, packet_from}

-- between two packets of a file
abbrev pub at_packets : ByteOrder → Bool → Scan → Scan
at_packets o nanoseconds s = record s { head = begun Record; give = 0; skip = 0; fault = None; order = o; nanoseconds = nanoseconds }

-- ---- a packet

header_told : (o : ByteOrder) (a b c d : ℕ) → a < 2 ^ 32 → b < 2 ^ 32 → c < 2 ^ 32 → d < 2 ^ 32
    → let h = u32_bytes o a ++ (u32_bytes o b ++ (u32_bytes o c ++ u32_bytes o d)) in
    (u32_at o 0 h ≡ a) × (u32_at o 4 h ≡ b) × (u32_at o 8 h ≡ c) × (u32_at o 12 h ≡ d) × (length h ≡ 16)
header_told Little a b c d p q r s = (u32_again Little a p, u32_again Little b q, u32_again Little c r, u32_again Little d s, refl)
header_told Big a b c d p q r s = (u32_again Big a p, u32_again Big b q, u32_again Big c r, u32_again Big d s, refl)

module _ (o : ByteOrder) (n : Bool) (s : Scan) (p : PcapPacket) (f : FitsPacket p) (most : length p.bytes ≤ p.original) where
  abbrev t : Scan
  t = at_packets o n s

  abbrev head : List ℕ
  head = packet_header_bytes o p

  low : length p.bytes < 2 ^ 32
  low = omega (arith, most, f.original)

  abbrev form : PacketHead
  form = record { before = 0; size = 16; captured_at = 8; original_at = 12; room = length p.bytes; time = Some (record_time n p.seconds p.fraction); captured = length p.bytes; original = p.original }

  taken : Leads t head [] (packet_head t form)
  taken =
      let e = header_told o p.seconds p.fraction (length p.bytes) p.original f.seconds f.fraction low f.original in
      lead_to (head_leads Record t head refl refl e.4) (simp (e.0, e.1, e.2, e.3))

  packet_read : (passes : Bool) → passes ≡ s.passes_cut → IsCaptured passes s.alone (capture_of p) → Went (at_packets o n) t (head ++ (p.bytes ++ [])) (capture_of p ∷ [])
  packet_read passes pass captured =
      let size : length head ≡ 16 = grind (arith, length-append, u32_size) in
      let moved : place (s.next + (16 + length p.bytes)) ≡ place (s.next + length (head ++ (p.bytes ++ []))) = omega (arith, length-append head (p.bytes ++ []), length-append p.bytes [], size) in
      packet_went Record fronted_record t form p.bytes [] refl (omega arith) (omega arith) (at_packets o n) t head taken (subst (λ (v : Bool). IsCaptured v s.alone (capture_of p)) pass captured)
      (λ left over next packets passed cut packet alone. refl) refl refl refl refl moved

  -- its bytes come after its head
  pub packet_begins : IsCaptured false s.alone (capture_of p) → Begins t head p.bytes (Some (record_time n p.seconds p.fraction))
  packet_begins whole =
      let b = whole_begins Record fronted_record t form p.bytes refl whole in
      record {
        state = _;
        final = b.final;
        leads = taken;
        gives = b.gives;
        told = b.told;
        keeps = b.keeps;
        reported = b.packet ∙ ap (λ (k : ℕ). Some (record { number = place (s.packets + 1); at = k; time = form.time; length = length p.bytes }))
            (let z : place (s.next + 2 ^ 64 - 0) ≡ place s.next = omega arith in z);
      }

packets_read : (o : ByteOrder) (n passes : Bool) (s : Scan) (packets : List PcapPacket) → passes ≡ s.passes_cut → AllFitPackets packets → AreCaptured passes s.alone (captures packets) → Went (at_packets o n) (at_packets o n s) (packets_bytes o packets) (captures packets)
packets_read o n passes s [] pass f c = went_nothing (at_packets o n) s
packets_read o n passes s (p ∷ packets) pass f c =
    let w = packet_read o n s p f.0 c.0.0 passes pass c.0 in
    let spelled = append_assoc (packet_header_bytes o p) (p.bytes ++ []) (packets_bytes o packets) ∙ ap (λ l. packet_header_bytes o p ++ (l ++ packets_bytes o packets)) (append-nil p.bytes) in
    subst (λ l. Went (at_packets o n) (at_packets o n s) l (captures (p ∷ packets))) spelled
    (went_then w (packets_read o n passes w.final packets (pass ∙ sym w.passes) f.1 (subst (λ (a : Bool). AreCaptured passes a (captures packets)) (sym w.alone) c.1)))

-- ---- a file

file_told : (o : ByteOrder) (b : Bool) (unread : List ℕ) → length unread ≡ 12
    → let h = u32_bytes o (magic_number b) ++ (u16_bytes o 2 ++ (u16_bytes o 4 ++ (unread ++ u32_bytes o 231))) in
    (magic (u32_at Little 0 h) ≡ Some (o, b)) × (u16_at o 4 h ≡ 2) × (u16_at o 6 h ≡ 4) × (u32_at o 20 h ≡ 231)
file_told Little true unread f = (refl, refl, refl, u32_last Little unread 231 12 f (omega arith))
file_told Little false unread f = (refl, refl, refl, u32_last Little unread 231 12 f (omega arith))
file_told Big true unread f = (refl, refl, refl, u32_last Big unread 231 12 f (omega arith))
file_told Big false unread f = (refl, refl, refl, u32_last Big unread 231 12 f (omega arith))

pub head_size : (h : PcapHeader) → FitsHeader h → length (header_bytes h) ≡ 24
head_size h f = grind (arith, length-append, u32_size, u16_size, f.unread)

module _ (passes : Bool) (h : PcapHeader) (f : FitsHeader h) where
  abbrev at : Scan → Scan
  at = at_packets h.order h.nanoseconds

  header_read : Went at (fresh passes FileHeader) (header_bytes h) []
  header_read =
      let s = fresh passes FileHeader in
      let size = head_size h f in
      let e = file_told h.order h.nanoseconds h.unread f.unread in
      went_on at s (record s { next = place 24 }) (header_bytes h)
      (lead_to (head_leads FileHeader s (header_bytes h) refl refl size) (simp (e.0, e.1, e.2, e.3))) refl refl (omega (arith, size)) refl refl

  pub file_read : (packets : List PcapPacket) → AllFitPackets packets → AreCaptured passes true (captures packets) → Went at (fresh passes FileHeader) (pcap_bytes h packets) (captures packets)
  file_read packets g c = went_then header_read (packets_read h.order h.nanoseconds passes header_read.final packets (sym header_read.passes) g (subst (λ (a : Bool). AreCaptured passes a (captures packets)) (sym header_read.alone) c))

  -- a file, and what follows it, begin as a file
  pub first_of_pcap : (packets : List PcapPacket) (more : List ℕ) → first_stage (pcap_bytes h packets ++ more) ≡ FileHeader
  first_of_pcap packets more =
      let size = head_size h f in
      let l = length-append (header_bytes h) (packets_bytes h.order packets) in
      first_front (pcap_bytes h packets) more (omega (arith, size, l)) ∙ first_front (header_bytes h) (packets_bytes h.order packets) (omega (arith, size))
      ∙ begins_pcap h.order h.nanoseconds _

pub pcap_read : (passes : Bool) (h : PcapHeader) (packets : List PcapPacket) → FitsHeader h → AllFitPackets packets → AreCaptured passes true (captures packets) → IsReadOf passes (pcap_bytes h packets) (captures packets)
pcap_read passes h packets f g c =
    read_whole (at_packets h.order h.nanoseconds) FileHeader passes (pcap_bytes h packets) (captures packets) (λ t. refl) (ap first_stage (sym (append-nil (pcap_bytes h packets))) ∙ first_of_pcap passes h f packets []) (file_read passes h f packets g c)

-- a packet that is whole begins behind others
pub pcap_begins : (passes : Bool) (h : PcapHeader) (packets : List PcapPacket) (p : PcapPacket) (f : FitsHeader h) (g : AllFitPackets packets) (c : AreCaptured passes true (captures packets)) → FitsPacket p → IsCaptured false (alone_all true (captures packets)) (capture_of p)
    → Begins (at_packets h.order h.nanoseconds (file_read passes h f packets g c).final) (packet_header_bytes h.order p) p.bytes (Some (record_time h.nanoseconds p.seconds p.fraction))
pcap_begins passes h packets p f g c k whole =
    let w = file_read passes h f packets g c in
    packet_begins h.order h.nanoseconds w.final p k whole.0 (subst (λ (a : Bool). IsCaptured false a (capture_of p)) (sym w.alone) whole)

-- each byte of a packet that follows is of it
pub pcap_packet_of : (passes : Bool) (h : PcapHeader) (packets : List PcapPacket) (p : PcapPacket) (more : List ℕ) (i : ℕ) → FitsHeader h → AllFitPackets packets → AreCaptured passes true (captures packets) → FitsPacket p → IsCaptured false (alone_all true (captures packets)) (capture_of p) → i < length p.bytes
    → let bytes = (pcap_bytes h packets ++ packet_header_bytes h.order p) ++ (p.bytes ++ more) in
    packet_given (first_scan passes bytes) bytes (length (whole_payload true (captures packets)) + i) ≡ Some (pcap_packet_reported h packets p)
pcap_packet_of passes h packets p more i f g c k whole low = packet_from (first_of_pcap passes h f packets) (file_read passes h f packets g c) (pcap_begins passes h packets p f g c k whole) more i low
