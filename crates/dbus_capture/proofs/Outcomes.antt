-- Bytes that begin as a file does are one, or are refused behind what is whole of them.
use Rattle.std.proofs.Common.{◌≡◌, ℕ, Bool, true, false, List, [], ◌∷◌, ◌++◌, length, Option, None, Some, refl, sym, ap, subst, ◌∙◌, arith}
use Rattle.dbus_capture.specs.Types.{Stage, FileHeader, Section, CaptureFault, Scan}
use Rattle.dbus_capture.specs.Stages.{is_raw}
use Rattle.dbus_capture.specs.Scans.{place, fresh}
use Rattle.dbus_capture.specs.Beginnings.{first_stage, first_scan}
use Rattle.dbus_capture.specs.Steps.{run, given, ended, Leads}
use Rattle.dbus_capture.specs.CutPackets.{Captured, whole_payload}
use Rattle.dbus_capture.specs.BlockFiles.{interfaces_all, last_section}
use Rattle.dbus_capture.specs.Outcomes.{AreBytes, IsPcap, IsPcapng, IsBehind, IsOutcome}
use Rattle.dbus_capture.proofs.StepLaws.{run-append, given-append, lead_of}
use Rattle.dbus_capture.proofs.Leads.{Went}
use Rattle.dbus_capture.proofs.PcapReads.{at_packets, file_read as pcap_file}
use Rattle.dbus_capture.proofs.BlockReads.{at_blocks}
use Rattle.dbus_capture.proofs.SectionReads.{file_read as pcapng_file}
use Rattle.dbus_capture.proofs.Follows.{FollowsFrom, IsSound, Standing, unfilled, reaches}
use Rattle.dbus_capture.proofs.FollowsHeads.{heads_go}

-- a front was read
record Fronted (s : Scan) (front payload : List ℕ) : Type 0 where
  final : Scan
  leads : Leads s front payload final
  stands : Standing (length front) 0 final

module _ (passes : Bool) (first : Stage) (filed : is_raw first ≡ false) (sound : IsSound first true 0 0) (IsFile : List ℕ → List ℕ → Type 0)
    (fronted : (front payload : List ℕ) → IsFile front payload → Fronted (fresh passes first) front payload) (bytes : List ℕ) (are : AreBytes bytes) where
  abbrev s : Scan
  s = fresh passes first

  begins : Standing 0 0 s
  begins = record { filed = filed; sound = sound; are = tt; at = (0, refl, refl) }

  are_rest : (front rest all : List ℕ) → all ≡ front ++ rest → AreBytes all → AreBytes rest
  are_rest [] rest all e h = subst AreBytes e h
  are_rest (x ∷ front) rest [] e h = absurd (cc)
  are_rest (x ∷ front) rest (y ∷ all) e h = are_rest front rest all (let tails : all ≡ front ++ rest = cc in tails) h.1

  behind : (front rest payload : List ℕ) (f : CaptureFault) → (ended (run s bytes)).fault ≡ Some f → IsFile front payload
      → bytes ≡ front ++ rest → IsBehind front rest payload (given s bytes) f
  behind front rest payload f e file joined =
      let w = fronted front payload file in
      let runs : run s bytes ≡ run w.final rest = ap (run s) joined ∙ run-append s front rest ∙ ap (λ (v : Scan). run v rest) w.leads.ran in
      let gives = ap (given s) joined ∙ given-append s front rest ∙ ap (λ l. l ++ given (run s front) rest) w.leads.gave in
      let k = (reaches heads_go (length front) 0 w.final rest w.stands
      (are_rest front rest bytes joined are)).within f (sym (ap (λ (v : Scan). (ended v).fault) runs) ∙ e) in
      record { within = k.0; at = k.1; there = omega (arith, k.2); more = given (run s front) rest; gives = gives }

  outcome : first_stage bytes ≡ first → (FollowsFrom first s bytes → IsFile bytes (given s bytes))
      → IsOutcome IsFile bytes (given (first_scan passes bytes) bytes) (ended (run (first_scan passes bytes) bytes)).fault
  outcome is spelled =
      subst (λ (v : Stage). IsOutcome IsFile bytes (given (fresh passes v) bytes) (ended (run (fresh passes v) bytes)).fault) (sym is) (by (ended (run s bytes)).fault refl)
    where
      by : (o : Option CaptureFault) → (ended (run s bytes)).fault ≡ o → IsOutcome IsFile bytes (given s bytes) o
      by None e = spelled (unfilled s bytes refl refl ((reaches heads_go 0 0 s bytes begins are).spelled e))
      by (Some f) e = let k = (reaches heads_go 0 0 s bytes begins are).within f e in let low = k.2 in record {
        there = record { within = k.0; at = k.1; there = omega (arith, low); more = given s bytes; gives = refl };
        behind = λ front rest payload file joined. behind front rest payload f e file joined;
      }

fronted_by : (at : Scan → Scan) (s : Scan) (front bytes payload : List ℕ) (packets : List Captured) → ((t : Scan) (n : ℕ) → (at t).next ≡ place n → Standing n 0 (at t)) → s.next ≡ 0
    → front ≡ bytes → payload ≡ whole_payload s.alone packets → Went at s bytes packets → Fronted s front payload
fronted_by at s front bytes payload packets stands zero same gives w =
    let size = ap length same in
    record {
      final = at w.final;
      leads = lead_of same (record { ran = w.leads.ran; gave = w.leads.gave ∙ sym gives });
      stands = stands w.final (length front) (let e = w.next (omega (arith, zero)) in omega (arith, e, zero, size));
    }

pcap_fronted : (passes : Bool) (front payload : List ℕ) → IsPcap passes front payload → Fronted (fresh passes FileHeader) front payload
pcap_fronted passes front payload (f, gives) =
    fronted_by (at_packets f.head.order f.head.nanoseconds) (fresh passes FileHeader) front _ payload _ (λ t n e. record { filed = refl; sound = tt; are = tt; at = (0, omega (arith, e), omega arith) }) refl f.joined gives
    (pcap_file passes f.head f.fits f.packets f.fit f.captured)

pcapng_fronted : (passes : Bool) (front payload : List ℕ) → IsPcapng passes front payload → Fronted (fresh passes Section) front payload
pcapng_fronted passes front payload (f, gives) =
    let last = last_section f.first f.sections in
    fronted_by (at_blocks last.order (interfaces_all [] last.blocks)) (fresh passes Section) front _ payload _ (λ t n e. record { filed = refl; sound = tt; are = tt; at = (0, omega (arith, e), omega arith) }) refl f.joined gives
    (pcapng_file passes f.first f.sections f.fits f.fit f.captured)

pub pcap_outcome : (passes : Bool) (bytes : List ℕ) → AreBytes bytes → first_stage bytes ≡ FileHeader
    → IsOutcome (IsPcap passes) bytes (given (first_scan passes bytes) bytes) (ended (run (first_scan passes bytes) bytes)).fault
pcap_outcome passes bytes are first =
    outcome passes FileHeader refl tt (IsPcap passes) (pcap_fronted passes) bytes are first
    (λ f. (f, ap (given (fresh passes FileHeader)) f.joined ∙ (pcap_file passes f.head f.fits f.packets f.fit f.captured).leads.gave))

pub pcapng_outcome : (passes : Bool) (bytes : List ℕ) → AreBytes bytes → first_stage bytes ≡ Section
    → IsOutcome (IsPcapng passes) bytes (given (first_scan passes bytes) bytes) (ended (run (first_scan passes bytes) bytes)).fault
pcapng_outcome passes bytes are first =
    outcome passes Section refl tt (IsPcapng passes) (pcapng_fronted passes) bytes are first
    (λ f. (f, ap (given (fresh passes Section)) f.joined ∙ (pcapng_file passes f.first f.sections f.fits f.fit f.captured).leads.gave))
