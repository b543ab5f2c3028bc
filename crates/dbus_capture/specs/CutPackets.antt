-- Packets of which not all bytes are there. "PCAP Capture File Format", "Packet Record"; D-Bus
-- Specification, "Message Format".
use Rattle.std.specs.Prelude.{◌≡◌, ℕ, ◌+◌, ◌*◌, ◌/◌, ◌^◌, ◌≤◌, ◌==◌, ◌&&◌, ◌||◌, nat_lt, nat_le, Bool, true, false, if◌then◌else◌, List, [], ◌∷◌, ◌++◌, length, slice_index}
use Rattle.dbus_capture.specs.Types.{ByteOrder, Little, Big}
use Rattle.dbus_capture.specs.Numbers.{u32_at}

-- The size that a message states in its first 16 bytes: theirs, that of its header fields with the
-- padding behind them, and that of its body. It is 0 if no message within the limits has it.
abbrev pub stated_in : ByteOrder → List ℕ → ℕ
stated_in order bytes =
    let fields = u32_at order 12 bytes in
    let size = 16 + (fields + 7) / 8 * 8 + u32_at order 4 bytes in
    if nat_le fields (2 ^ 26) && nat_le size (2 ^ 27) then size else 0

abbrev pub stated : List ℕ → ℕ
stated bytes = if slice_index bytes 0 == 0x6c then stated_in Little bytes else (if slice_index bytes 0 == 0x42 then stated_in Big bytes else 0)

-- these bytes of a packet are fewer than its message has
abbrev pub falls_short : List ℕ → Bool
falls_short bytes = nat_lt 0 (length bytes) && (nat_lt (length bytes) 16 || nat_lt (length bytes) (stated bytes))

-- a packet that had so many bytes, of which these were captured
pub record Captured : Type 0 where
  pub original : ℕ
  pub bytes : List ℕ

-- Not all bytes of a packet were captured; or it has fewer than its message, if each packet before
-- it was one message.
abbrev pub is_cut : (alone : Bool) → Captured → Bool
is_cut alone p = nat_lt (length p.bytes) p.original || (alone && falls_short p.bytes)

-- Whether each packet was one message, after this one as well. One that was cut is left out, and no
-- bytes state the size 0.
abbrev pub alone_after : (alone : Bool) → Captured → Bool
alone_after alone p = alone && (is_cut alone p || (length p.bytes == stated p.bytes))

abbrev pub alone_all : (alone : Bool) → List Captured → Bool
alone_all alone [] = alone
alone_all alone (p ∷ packets) = alone_all (alone_after alone p) packets

-- A packet is whole; or it was cut, and packets that were cut are to be passed over.
abbrev pub IsCaptured : (passes_cut alone : Bool) → Captured → Type 0
IsCaptured passes_cut alone p = (length p.bytes ≤ p.original) × (is_cut alone p ≡ true → passes_cut ≡ true)

abbrev pub AreCaptured : (passes_cut alone : Bool) → List Captured → Type 0
AreCaptured passes_cut alone [] = Unit {0}
AreCaptured passes_cut alone (p ∷ packets) = IsCaptured passes_cut alone p × AreCaptured passes_cut (alone_after alone p) packets

-- the bytes of the packets that are whole
abbrev pub whole_payload : (alone : Bool) → List Captured → List ℕ
whole_payload alone [] = []
whole_payload alone (p ∷ packets) = (if is_cut alone p then [] else p.bytes) ++ whole_payload (alone_after alone p) packets

-- how many these are, and how many the others
abbrev pub whole_count : (alone : Bool) → List Captured → ℕ
whole_count alone [] = 0
whole_count alone (p ∷ packets) = (if is_cut alone p then 0 else 1) + whole_count (alone_after alone p) packets

abbrev pub cut_count : (alone : Bool) → List Captured → ℕ
cut_count alone [] = 0
cut_count alone (p ∷ packets) = (if is_cut alone p then 1 else 0) + cut_count (alone_after alone p) packets
