-- How a reader stands to the packets of its input after each step.
use Rattle.std.proofs.Common.{◌≡◌, ℕ, zero, suc, ◌+◌, ◌-◌, ◌<◌, ◌≤◌, Bool, true, false, None, Some, Option, refl, sym, ap, ◌∙◌, subst, arith, inl, inr}
use Rattle.std.proofs.lemmas.Bool.{cases_lt, false≢true}
use Rattle.dbus_device.specs.Packets.{Packets, PacketsAfter, AreOfPacket}
use Rattle.dbus_device.specs.declared.packet.Packet.{Packet}
use Rattle.dbus_stream.specs.Next.{ReadsNothing}
use Rattle.dbus_stream.specs.Packed.{is_packed}
use Rattle.dbus_stream.specs.Packets.{HasPackets, KeepsPackets}
use Rattle.dbus_stream.specs.Reading.{source_of, done_of, read_of, last_of, packed_of}
use Rattle.dbus_stream.specs.Taking.{Taking}
use Rattle.dbus_stream.specs.declared.buffer.Buffer.{Ghosts}
use Rattle.dbus_stream.specs.declared.reader.Reader.{Reader}

-- what is left after m bytes and then n more
after_more : (all : Packets) (m n : ℕ) (old new : Option Packets) → PacketsAfter m (Some all) old → PacketsAfter n old new → PacketsAfter (m + n) (Some all) new
after_more all m n None new a b = absurd a
after_more all m n (Some rest) None a b = absurd b
after_more all m n (Some rest) (Some left) a b = λ i. b i ∙ (a (n + i) ∙ ap all (let same : m + (n + i) ≡ (m + n) + i = omega arith in same))

-- the n bytes that follow m bytes are of one packet
of_one : (all : Packets) (m n : ℕ) (old : Option Packets) (p : Option Packet) → PacketsAfter m (Some all) old → AreOfPacket n old p → (i : ℕ) → m ≤ i → i < m + n → all i ≡ p
of_one all m n None p a o i from before = absurd a
of_one all m n (Some rest) p a o i from before =
    let there : m + (i - m) ≡ i = omega (arith, from) in
    sym (ap all there) ∙ (sym (a (i - m)) ∙ o (i - m) (omega (arith, from, before)))

-- no bytes are of any packet
pub none_of : (old : Option Packets) (p : Option Packet) → AreOfPacket 0 old p
none_of None p = tt
none_of (Some rest) p = λ i before. absurd (omega (arith, before))

module _ {R T B A : Type 0} {b : Ghosts B} (packets : R → Option Packets) (packet : R → Option Packet) where
  -- the packet is that of the last byte of a message that ends with a byte of the last read
  pub of_message : (all : Packets) (r : Reader R T B A b) → HasPackets packets packet all r → read_of r < done_of r + last_of r → packet (source_of r) ≡ all (done_of r - 1)
  of_message all r h inside =
      let last = h.last in
      sym (h.told (done_of r - 1) (omega (arith, inside, last)) (omega (arith, inside, last)))

  -- the same bytes were read of the same device
  pub still : (old new : Reader R T B A b) → source_of new ≡ source_of old → read_of new ≡ read_of old → last_of new ≡ last_of old → packed_of new ≡ packed_of old → KeepsPackets packets packet old new
  still old new source read last packed all h =
      let inside = h.last in
      record {
        left = subst (λ (s : R). PacketsAfter (read_of new) (Some all) (packets s)) (sym source) (subst (λ (n : ℕ). PacketsAfter n (Some all) (packets (source_of old))) (sym read) h.left);
        first = h.first;
        told = λ i from before. h.told i from (omega (arith, before, read)) ∙ ap packet (sym source);
        last = omega (arith, inside, read, last);
        some = λ some. let first = h.some (omega (arith, some, read)) in omega (arith, first, read);
        unpacked = λ none i before. h.unpacked (sym packed ∙ none) i (omega (arith, before, read));
      }

  -- and then nothing is read
  pub unread : {G : Type 0} (k : Taking T G) (old mid new : Reader R T B A b) → KeepsPackets packets packet old mid → ReadsNothing k mid new → KeepsPackets packets packet old new
  unread k old mid new keeps n all h = still mid new n.source n.read n.last n.packed all (keeps all h)

  -- one more read, which gave n bytes
  pub read_more : (n : ℕ) (old new : Reader R T B A b) → read_of new ≡ read_of old + n → last_of new ≡ n → PacketsAfter n (packets (source_of old)) (packets (source_of new))
      → AreOfPacket n (packets (source_of old)) (packet (source_of new)) → (n ≡ 0 → packet (source_of new) ≡ packet (source_of old)) → (packed_of new ≡ false → (packed_of old ≡ false) × (0 < n → packet (source_of new) ≡ None)) → KeepsPackets packets packet old new
  read_more zero old new read last after of_packet leaves packs all h =
      let inside = h.last in
      record {
        left = subst (λ (n : ℕ). PacketsAfter n (Some all) (packets (source_of new))) (sym read) (after_more all (read_of old) 0 (packets (source_of old)) (packets (source_of new)) h.left after);
        first = h.first;
        told = λ i from before. h.told i from (omega (arith, before, read)) ∙ sym (leaves refl);
        last = omega (arith, inside, read, last);
        some = λ some. let first = h.some (omega (arith, some, read)) in omega (arith, first, read);
        unpacked = λ none i before. h.unpacked (packs none).0 i (omega (arith, before, read));
      }
  read_more (suc k) old new read last after of_packet leaves packs all h = record {
    left = subst (λ (n : ℕ). PacketsAfter n (Some all) (packets (source_of new))) (sym read) (after_more all (read_of old) (suc k) (packets (source_of old)) (packets (source_of new)) h.left after);
    first = read_of old;
    told = λ i from before. of_one all (read_of old) (suc k) (packets (source_of old)) (packet (source_of new)) h.left of_packet i from (omega (arith, before, read));
    last = omega (arith, read, last);
    some = λ some. omega (arith, read);
    unpacked = λ none i before. elim (cases_lt i (read_of old)) [
      | inl below ↦ h.unpacked (packs none).0 i below
      | inr from ↦ of_one all (read_of old) (suc k) (packets (source_of old)) (packet (source_of new)) h.left of_packet i from (omega (arith, before, read)) ∙ (packs none).1 (omega arith)
    ];
  }

-- no read gave bytes of a packet
pub none_packed : (packed : Bool) (packet : Option Packet) → is_packed packed packet ≡ false → (packed ≡ false) × (packet ≡ None)
none_packed true packet e = absurd (false≢true (sym e))
none_packed false None e = (refl, refl)
none_packed false (Some p) e = absurd (false≢true (sym e))
