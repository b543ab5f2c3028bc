-- The file of messages is a pcap file, and its times are those that were written.
use Rattle.std.proofs.Common.{◌≡◌, ℕ, suc, ◌+◌, ◌<◌, ◌^◌, ◌/◌, ◌%◌, Bool, true, false, cond, List, [], ◌∷◌, ◌++◌, length, map, Option, Some, None, refl, sym, ap, ◌∙◌, arith, subst}
use Rattle.dbus_capture.specs.CutPackets.{stated, IsCaptured, AreCaptured, is_cut, alone_after, alone_all, whole_payload, whole_count}
use Rattle.dbus_capture.specs.PcapFiles.{FitsPacket, AllFitPackets, packet_header_bytes, capture_of, captures}
use Rattle.dbus_capture.specs.Heads.{record_time}
use Rattle.dbus_capture.specs.Reading.{IsRead}
use Rattle.dbus_capture.specs.Beginnings.{first_scan}
use Rattle.dbus_capture.specs.Scans.{place}
use Rattle.dbus_capture.specs.Steps.{packet_given}
use Rattle.dbus_capture.proofs.Choices.{eq_is}
use Rattle.dbus_capture.proofs.CutLaws.{fits_by, whole_told}
use Rattle.dbus_capture.proofs.PcapReads.{pcap_packet_of, pcap_read}
use Rattle.dbus_pcap.specs.Written.{AllFit, FitsMessage, CapturedMessage, file_of, messages_bytes, packet_of, written_header, written_time}

pub time_low : (time : Option ℕ) → written_time time < 4294967296000000000
time_low None = omega arith
time_low (Some time) = omega arith

pub fits_packet : (m : CapturedMessage) → FitsMessage m → FitsPacket (packet_of m)
fits_packet m f =
    let t = time_low m.time in record {
      seconds = omega (arith, t);
      fraction = omega arith;
      original = f.most;
    }

pub all_fit : (messages : List CapturedMessage) → AllFit messages → AllFitPackets (map packet_of messages)
all_fit [] f = tt
all_fit (m ∷ messages) f = (fits_packet m f.0, all_fit messages f.1)

-- its packet is whole, and one message
whole_is : (m : CapturedMessage) → FitsMessage m → is_cut true (capture_of (packet_of m)) ≡ false
whole_is m f = let n = f.size in fits_by true (capture_of (packet_of m)) (omega arith) f.least (omega (arith, n))

alone_is : (m : CapturedMessage) → FitsMessage m → alone_after true (capture_of (packet_of m)) ≡ true
alone_is m f = (whole_told true (capture_of (packet_of m)) (whole_is m f)).2 refl ∙ eq_is (length m.bytes) (stated m.bytes) (sym f.size)

pub captured_is : (passes : Bool) (m : CapturedMessage) → FitsMessage m → IsCaptured passes true (capture_of (packet_of m))
captured_is passes m f = (omega arith, λ e. absurd (let no : ◌≡◌ {A = Bool} true false = sym e ∙ whole_is m f in cc))

-- what is read of all of them
record AreRead (messages : List CapturedMessage) : Type 0 where
  captured : (passes : Bool) → AreCaptured passes true (captures (map packet_of messages))
  payload : whole_payload true (captures (map packet_of messages)) ≡ messages_bytes messages
  count : whole_count true (captures (map packet_of messages)) ≡ length messages
  alone : alone_all true (captures (map packet_of messages)) ≡ true

are_read : (messages : List CapturedMessage) → AllFit messages → AreRead messages
are_read [] f = record { captured = λ passes. tt; payload = refl; count = refl; alone = refl }
are_read (m ∷ messages) f =
    let more = are_read messages f.1 in
    let cut = whole_is m f.0 in
    let alone = alone_is m f.0 in
    let others = captures (map packet_of messages) in
    record {
      captured = λ passes. (captured_is passes m f.0, subst (λ (a : Bool). AreCaptured passes a others) (sym alone) (more.captured passes));
      payload = ap (λ (v : Bool). cond v [] m.bytes ++ whole_payload (alone_after true (capture_of (packet_of m))) others) cut ∙ ap (λ (a : Bool). m.bytes ++ whole_payload a others) alone ∙ ap (λ l. m.bytes ++ l) more.payload;
      count =
          let one : ◌≡◌ {A = ℕ} (cond (is_cut true (capture_of (packet_of m))) 0 1) 1 = ap (λ (v : Bool). cond v 0 1) cut in
          let same = ap (λ (a : Bool). whole_count a others) alone in
          let n = more.count in
          omega (arith, one, same, n);
      alone = ap (λ (a : Bool). alone_all a others) alone ∙ more.alone;
    }

pub written_read : (passes : Bool) (messages : List CapturedMessage) → AllFit messages → IsRead passes (file_of messages) (messages_bytes messages)
written_read passes messages f =
    let r = are_read messages f in
    subst (λ l. IsRead passes (file_of messages) l) r.payload (pcap_read passes written_header (map packet_of messages) (record { unread = refl }) (all_fit messages f) (r.captured passes)).read

time_is : (t : ℕ) → record_time true (t / 1000000000) (t % 1000000000) ≡ t
time_is t = omega arith

pub times_read : (passes : Bool) (before : List CapturedMessage) (m : CapturedMessage) (more : List ℕ) (i : ℕ) → AllFit before → FitsMessage m → i < length m.bytes
    → let bytes = (file_of before ++ packet_header_bytes written_header.order (packet_of m)) ++ (m.bytes ++ more) in
    packet_given (first_scan passes bytes) bytes (length (messages_bytes before) + i)
    ≡ Some (record { number = place (length before + 1); at = place (length (file_of before)); time = Some (written_time m.time); length = length m.bytes })
times_read passes before m more i f fits there =
    let r = are_read before f in
    let packets = map packet_of before in
    let bytes = (file_of before ++ packet_header_bytes written_header.order (packet_of m)) ++ (m.bytes ++ more) in
    ap (λ (l : List ℕ). packet_given (first_scan passes bytes) bytes (length l + i)) (sym r.payload)
    ∙ pcap_packet_of passes written_header packets (packet_of m) more i (record { unread = refl }) (all_fit before f) (r.captured passes) (fits_packet m fits) (subst (λ (a : Bool). IsCaptured false a (capture_of (packet_of m))) (sym r.alone) (captured_is false m fits)) there
    ∙ ap (λ (n : ℕ). Some (record { number = place (n + 1); at = place (length (file_of before)); time = Some (record_time true (packet_of m).seconds (packet_of m).fraction); length = length m.bytes })) r.count
    ∙ ap (λ (t : ℕ). Some (record { number = place (length before + 1); at = place (length (file_of before)); time = Some t; length = length m.bytes })) (time_is (written_time m.time))
