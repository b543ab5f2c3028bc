-- Of which packets the bytes are that a capture hands on.
use Rattle.std.proofs.Common.{◌<◌, ◌≡◌, ◌≤◌, ◌+◌, ℕ, zero, suc, Bool, List, [], ◌∷◌, ◌++◌, length, take, get_or, replicate, Option, None, Some, Result, Ok, Err, MatchResult, inl, inr, refl, sym, ap, ◌∙◌, subst, arith, append_assoc, append-nil, length-append}
use Rattle.std.specs.Io.KnownBytes.{Consumes, IsAtEnd, prepend_known}
use Rattle.std.proofs.lemmas.List.{length-take-le, length-replicate, nil_from_length, get_or_append_left, get_or-append-add, get_or-replicate}
use Rattle.dbus_capture.specs.Types.{DeviceFault, Packet, Raw, Scan}
use Rattle.dbus_device.specs.Packets.{Packets, PacketsAfter, AreOfPacket, ReadsOfPacket}
use Rattle.dbus_capture.specs.declared.input.Input.{Input}
use Rattle.dbus_capture.specs.Stages.{is_raw}
use Rattle.dbus_capture.specs.Beginnings.{first_stage, first_scan}
use Rattle.dbus_capture.specs.Steps.{turn_of, handed, step, run, given, packets_given, packet_given, LeadsWithin}
use Rattle.dbus_capture.specs.Captures.{scan_of, source_of, owed_of, kept_of, file_of, packets_from, packets_by, Hands, Reads, Ends, ReadsPart}
use Rattle.dbus_capture.specs.Packets.{last_packet}
use Rattle.dbus_capture.proofs.StepLaws.{packets-append, run_raw}

-- ---- as many packets as bytes

packets-size : (s : Scan) (xs : List ℕ) → length (packets_given s xs) ≡ length (given s xs)
unfolding packets_given given
packets-size s [] = refl
packets-size s (x ∷ xs) =
    let here = handed s x (turn_of s) in
    let more = packets-size (step s x) xs in
    omega (
      arith,
      more,
      length-append here (given (step s x) xs),
      length-append (replicate (length here) (step s x).packet) (packets_given (step s x) xs),
      length-replicate (length here) (step s x).packet,
    )

-- nothing is of no packet
no_packets : (owed : List ℕ) (s : Scan) (xs : List ℕ) → owed ++ given s xs ≡ [] → packets_from owed s xs ≡ []
no_packets owed s xs none =
    let size = ap length none in
    nil_from_length (packets_from owed s xs) (omega (
      arith,
      size,
      length-append owed (given s xs),
      packets-size s xs,
      length-append (replicate (length owed) s.packet) (packets_given s xs),
      length-replicate (length owed) s.packet,
    ))

-- ---- the packets of what is read, and of what is left

-- these are first
first_of : (xs ys : List (Option Packet)) (n : ℕ) (packet : Option Packet) → xs ≡ replicate n packet ++ ys → let a : Option Packets = Some (λ i. get_or xs i None) in
    let b : Option Packets = Some (λ i. get_or ys i None) in
    PacketsAfter n a b × AreOfPacket n a packet
first_of xs ys n packet e =
    let size = length-replicate n packet in (
      λ i. sym (get_or-append-add (replicate n packet) ys i None) ∙ ap (λ (k : ℕ). get_or (replicate n packet ++ ys) (k + i) None) size ∙ ap (λ l. get_or l (n + i) None) (sym e),
      λ i low. ap (λ l. get_or l i None) e ∙ get_or_append_left (replicate n packet) ys None i (omega (arith, low, size)) ∙ get_or-replicate n i packet None low,
    )

-- of which packet each byte is that is left to give, if it is known what the input is
abbrev pub packets_rest : {R : Type 0} → (R → Option (List ℕ)) → Input R → Option Packets
packets_rest left s = packets_by (owed_of s) (scan_of s) (file_of left s)

pub of_none : (a : Option Packets) (packet : Option Packet) → AreOfPacket 0 a packet
of_none None packet = tt
of_none (Some packets) packet = λ i low. absurd (omega (arith, low))

module _ {R : Type 0} (old new : Input R) where
  hands_packets : (used out y : List ℕ) → Hands old used out new
      → packets_from (owed_of old) (scan_of old) (used ++ y) ≡ replicate (length out) (scan_of new).packet ++ packets_from (owed_of new) (scan_of new) y
  hands_packets used out y h =
      let packet = (scan_of new).packet in
      ap (λ l. replicate (length (owed_of old)) (scan_of old).packet ++ l) (packets-append (scan_of old) used y)
      ∙ sym (append_assoc (replicate (length (owed_of old)) (scan_of old).packet) (packets_given (scan_of old) used) (packets_given (run (scan_of old) used) y))
      ∙ ap (λ l. l ++ packets_given (run (scan_of old) used) y) h.one ∙ ap (λ (v : Scan). (replicate (length out) packet ++ replicate (length (owed_of new)) packet) ++ packets_given v y) h.ran
      ∙ append_assoc (replicate (length out) packet) (replicate (length (owed_of new)) packet) (packets_given (scan_of new) y)

  packets_left : (a b : Option (List ℕ)) (used out : List ℕ) → Consumes a b used → Hands old used out new → let before = packets_by (owed_of old) (scan_of old) a in
      PacketsAfter (length out) before (packets_by (owed_of new) (scan_of new) b) × AreOfPacket (length out) before (scan_of new).packet
  packets_left None b used out c h = (tt, tt)
  packets_left (Some x) None used out c h = absurd c
  packets_left (Some x) (Some y) used out c h =
      first_of (packets_from (owed_of old) (scan_of old) x) (packets_from (owed_of new) (scan_of new) y) (length out) (scan_of new).packet
      (ap (packets_from (owed_of old) (scan_of old)) c ∙ hands_packets used out y h)

  packets_end : (a b : Option (List ℕ)) (used : List ℕ) → Consumes a (prepend_known (kept_of new) b) used → owed_of old ++ given (scan_of old) used ≡ [] → owed_of new ≡ [] → kept_of new ≡ [] → IsAtEnd b
      → PacketsAfter 0 (packets_by (owed_of old) (scan_of old) a) (packets_by (owed_of new) (scan_of new) (prepend_known (kept_of new) b))
  unfolding packets_given
  packets_end None b used c gave owed none end = tt
  packets_end (Some x) None used c gave owed none end = absurd c
  packets_end (Some x) (Some y) used c gave owed none end =
      let nothing : kept_of new ++ y ≡ [] = ap (λ l. l ++ y) none ∙ end in
      let all : x ≡ used = c ∙ ap (λ l. used ++ l) nothing ∙ append-nil used in
      let empty : packets_from (owed_of new) (scan_of new) (kept_of new ++ y) ≡ [] = ap (packets_from (owed_of new) (scan_of new)) nothing ∙ ap (λ (l : List ℕ). packets_from l (scan_of new) []) owed in
      (first_of (packets_from (owed_of old) (scan_of old) x) (packets_from (owed_of new) (scan_of new) (kept_of new ++ y)) 0 None
      (ap (packets_from (owed_of old) (scan_of old)) all ∙ no_packets (owed_of old) (scan_of old) used gave ∙ sym empty)).0

-- what was read is of the packet that began last
pub part_packets : {R : Type 0} (left : R → Option (List ℕ)) (failures : R → ℕ) (old new : Input R) (r : Result ℕ DeviceFault) (buffer : List ℕ) (before : Option Packet)
    → MatchResult r (λ n. n ≤ length buffer) (λ e. Unit {0}) → ReadsPart left failures old new r buffer
    → ReadsOfPacket (packets_rest left old) (packets_rest left new) (last_packet r (scan_of new).packet before) r
part_packets left failures old new (Err e) buffer before b (inl f) = (packets_left old new (file_of left old) (file_of left new) f.reads.used [] f.reads.consumed f.reads.leads).0
part_packets left failures old new (Err e) buffer before b (inr f) = (packets_left old new (file_of left old) (file_of left new) f.reads.used [] f.reads.consumed f.reads.leads).0
part_packets left failures old new (Ok zero) buffer before b (u, inl g) =
    ((packets_left old new (file_of left old) (file_of left new) g.0.used [] g.0.consumed g.0.leads).0, of_none (packets_rest left old) before)
part_packets left failures old new (Ok (suc n)) buffer before b (u, inl g) =
    subst (λ (k : ℕ). PacketsAfter k (packets_rest left old) (packets_rest left new) × AreOfPacket k (packets_rest left old) (scan_of new).packet) (length-take-le (suc n) buffer b)
    (packets_left old new (file_of left old) (file_of left new) g.0.used (take (suc n) buffer) g.0.consumed g.0.leads)
part_packets left failures old new (Ok zero) buffer before b (u, inr g) =
    (packets_end old new (file_of left old) (left (source_of new)) g.1.used g.1.consumed g.1.gave g.1.owed g.1.nothing g.1.at_end, of_none (packets_rest left old) before)
part_packets left failures old new (Ok (suc n)) buffer before b (u, inr g) = absurd (let zero = g.0 in omega (arith, zero))

-- ---- bytes of a packet, after others

pub packet_after : {t : Scan} (s : Scan) (front bytes more : List ℕ) (n i : ℕ) → length (given s front) ≡ n → LeadsWithin (run s front) bytes bytes t → i < length bytes
    → packet_given s (front ++ (bytes ++ more)) (n + i) ≡ t.packet
packet_after {t} s front bytes more n i size within low =
    let u = run s front in
    let all = length-replicate (length bytes) t.packet in
    let split = packets-append s front (bytes ++ more) ∙ ap (λ l. packets_given s front ++ l) (packets-append u bytes more ∙ ap (λ l. l ++ packets_given (run u bytes) more) within.one) in
    let back = replicate (length bytes) t.packet ++ packets_given (run u bytes) more in
    ap (λ l. get_or l (n + i) None) split ∙ ap (λ (k : ℕ). get_or (packets_given s front ++ back) (k + i) None) (sym (packets-size s front ∙ size))
    ∙ get_or-append-add (packets_given s front) back i None ∙ get_or_append_left (replicate (length bytes) t.packet) (packets_given (run u bytes) more) None i (omega (arith, low, all))
    ∙ get_or-replicate (length bytes) i t.packet None low

-- ---- a stream with no file around it

defaults : (n i : ℕ) (packet : Option Packet) → get_or (replicate n packet) i packet ≡ packet
defaults zero i packet = refl
defaults (suc n) zero packet = refl
defaults (suc n) (suc i) packet = defaults n i packet

pub stream_packets : (passes : Bool) (bytes : List ℕ) (i : ℕ) → first_stage bytes ≡ Raw → packet_given (first_scan passes bytes) bytes i ≡ None
stream_packets passes bytes i raw =
    ap (λ l. get_or l i None) (run_raw (first_scan passes bytes) bytes refl (ap is_raw raw)).one ∙ defaults (length bytes) i None
