-- What bytes come to: they are a file, or they are refused at a place behind what is whole of them.
-- "PCAP Capture File Format", "General File Structure", and "PCAP Now Generic (pcapng) Capture File
-- Format", "General File Structure".
use Rattle.std.specs.Prelude.{◌≡◌, ℕ, ◌+◌, ◌<◌, ◌≤◌, Bool, true, List, [], ◌∷◌, ◌++◌, length, Option, Some, None}
use Rattle.dbus_capture.specs.Types.{CaptureFault}
use Rattle.dbus_capture.specs.Scans.{place}
use Rattle.dbus_capture.specs.CutPackets.{AreCaptured, whole_payload}
use Rattle.dbus_capture.specs.PcapFiles.{PcapHeader, PcapPacket, FitsHeader, AllFitPackets, pcap_bytes, captures}
use Rattle.dbus_capture.specs.BlockFiles.{FileSection, sections_bytes, FitsSection, AllFitSections, sections_packets}

-- they are bytes
abbrev pub AreBytes : List ℕ → Type 0
AreBytes [] = Unit {0}
AreBytes (b ∷ bytes) = (b < 256) × AreBytes bytes

-- the bytes are a pcap file; whether each packet before it was one message
pub record PcapFile (passes_cut alone : Bool) (bytes : List ℕ) : Type 0 where
  pub head : PcapHeader
  pub packets : List PcapPacket
  pub fits : FitsHeader head
  pub fit : AllFitPackets packets
  pub captured : AreCaptured passes_cut alone (captures packets)
  pub joined : bytes ≡ pcap_bytes head packets

-- those of its packets that are whole are handed on
abbrev pub IsPcap : (passes_cut : Bool) → (bytes out : List ℕ) → Type 0
IsPcap passes_cut bytes out = (f : PcapFile passes_cut true bytes) × (out ≡ whole_payload true (captures f.packets))

-- the same of a pcapng file, which ends behind any of its blocks
pub record PcapngFile (passes_cut alone : Bool) (bytes : List ℕ) : Type 0 where
  pub first : FileSection
  pub sections : List FileSection
  pub fits : FitsSection first
  pub fit : AllFitSections sections
  pub captured : AreCaptured passes_cut alone (sections_packets (first ∷ sections))
  pub joined : bytes ≡ sections_bytes (first ∷ sections)

abbrev pub IsPcapng : (passes_cut : Bool) → (bytes out : List ℕ) → Type 0
IsPcapng passes_cut bytes out = (f : PcapngFile passes_cut true bytes) × (out ≡ whole_payload true (sections_packets (f.first ∷ f.sections)))

-- The fault of bytes is at a place of what follows this front, and what the front gives is given first.
pub record IsBehind (front rest payload out : List ℕ) (fault : CaptureFault) : Type 0 where
  pub within : ℕ
  pub at : fault.at ≡ place (length front + within)
  pub there : within ≤ length rest
  pub more : List ℕ
  pub gives : out ≡ payload ++ more

-- The bytes are refused at a place of them, which is behind each file that they begin with: also the
-- longest of these.
pub record IsRefused (IsFile : List ℕ → List ℕ → Type 0) (bytes out : List ℕ) (fault : CaptureFault) : Type 0 where
  pub there : IsBehind [] bytes [] out fault
  pub behind : (front rest payload : List ℕ) → IsFile front payload → bytes ≡ front ++ rest → IsBehind front rest payload out fault

-- what bytes come to: what is handed on of them, and the fault, if they are no file
abbrev pub IsOutcome : (List ℕ → List ℕ → Type 0) → List ℕ → List ℕ → Option CaptureFault → Type 0
IsOutcome IsFile bytes out None = IsFile bytes out
IsOutcome IsFile bytes out (Some fault) = IsRefused IsFile bytes out fault
