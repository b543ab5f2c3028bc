-- A handshake is read before the messages, from a source that is read ahead.
-- D-Bus Specification, "Authentication Protocol".
use Rattle.std.specs.Prelude.{◌≡◌, ◌⊎◌, ℕ, List, ◌++◌, Option, Some, None, Result, Ok, Err, codes, decimal, []}
use Rattle.std.specs.Io.KnownBytes.{prepend_known}
use Rattle.std.specs.List.{flat_map}
use Rattle.dbus_device.specs.Device.{Wrote, Stopped}
use Rattle.dbus_device.specs.Packets.{Packets}
use Rattle.dbus_device.specs.declared.packet.Packet.{Packet}
use Rattle.dbus_handshake_input.specs.Ahead.{calls_of, kept_of, packets_of, source_of}
use Rattle.dbus_handshake_input.specs.Passing.{Counts, Passes}
use Rattle.dbus_handshake_input.specs.declared.fault.HandshakeFault.{HandshakeFault}
use Rattle.dbus_handshake_input.specs.Handshakes.{handshake_reason_text}
use Rattle.dbus_handshake_input.specs.declared.fault.HandshakeFault.TheVariants as fault
use Rattle.dbus_handshake_input.specs.declared.fault.HandshakeReason.{HandshakeReason}
use Rattle.dbus_handshake_input.specs.declared.read_ahead.ReadAhead.{ReadAhead}
use Rattle.dbus_handshake_input.specs.declared.side.Side.{Side}
use Rattle.cli_report.specs.Devices.{Reading, reading, Writing}
use Rattle.cli_report.specs.Telling.{Told}
use Rattle.cli_report.specs.declared.ending.ExitStatus.{ExitStatus}
use Rattle.cli_report.specs.declared.ending.ExitStatus.TheVariants as status
use Rattle.cli_report.specs.declared.ending.Cause.{Cause}
use Rattle.cli_report.specs.declared.ending.Cause.TheVariants as cause
use Rattle.dbus_handshake_input.specs.Heard.{HeardLine, Reads}
use Rattle.dbus_handshake_input.specs.declared.size.HandshakeSize.{HandshakeSize}
use Rattle.dbus_show_handshake.specs.ShownHandshakes.{line_text, size_line}
use Rattle.cli_report.specs.Gathering.{Gathers, Goes}
use Rattle.cli_report.specs.declared.gathering.Unwritten.{Unwritten}
use Rattle.cli_report.specs.declared.page.Page.{Page}

module _ {R : Type 0} (left : R → Option (List ℕ)) (calls failures : R → ℕ) (packets : R → Option Packets) (packet : R → Option Packet) where
  -- the handshake of the side was taken, or what was read begins with none; the reads that failed
  -- count
  abbrev pub ReadsHandshake : Side → ReadAhead R → ReadAhead R → Result (Unit {0}) HandshakeFault → Type 0
  ReadsHandshake side old new result = Passes left calls packets packet side old new result × Counts (failures (source_of old)) (failures (source_of new)) result

  -- the same, if one is to come first
  abbrev pub TakesHandshake : Option Side → ReadAhead R → ReadAhead R → Result (Unit {0}) HandshakeFault → Type 0
  TakesHandshake None old new (Ok x) = new ≡ old
  TakesHandshake None old new (Err fault) = ⊥
  TakesHandshake (Some side) old new result = ReadsHandshake side old new result

-- a source before and after: what is left in it is what it keeps, and then what the source below
-- has; its calls are those of the source below, and those that the bytes it kept answered
abbrev pub ahead : {R : Type 0} → (R → Option (List ℕ)) → (calls failures : R → ℕ) → (R → Option Packets) → (R → Option Packet) → ReadAhead R → ReadAhead R → Reading (ReadAhead R)
ahead left calls failures packets packet old new =
    reading (λ s. prepend_known (kept_of s) (left (source_of s))) (calls_of calls) (λ s. failures (source_of s)) (packets_of packets packet) old new

-- the offset of the fault of a handshake and its reason
abbrev pub handshake_line : ℕ → HandshakeReason → List ℕ
handshake_line at why = codes "handshake refused at " ++ (decimal at ++ (codes ": " ++ (handshake_reason_text why ++ codes "\n")))

module _ {E : Type 0} (held : E → Option (List ℕ)) (failures : E → ℕ) (old new : E) where
  -- the text was written, and this is the status; or a write failed after its first bytes
  abbrev pub Shows : ExitStatus → List ℕ → ExitStatus → Type 0
  Shows shown text end = ((end ≡ shown) × Wrote held failures old text new) ⊎ ((end ≡ status.Failed) × (n : ℕ) × Stopped held failures old text n new)

  -- the cause was told
  abbrev pub StopsBy : Cause → ExitStatus → Type 0
  StopsBy why end = (end ≡ status.Failed) × Told held failures old new why

  -- why no handshake was read was told, or a write failed; or memory was wanted
  abbrev pub TellsHandshake : HandshakeFault → ExitStatus → Type 0
  TellsHandshake fault.Memory end = StopsBy cause.Memory end
  TellsHandshake fault.Device end = StopsBy cause.ReadFailed end
  TellsHandshake (fault.Refused at why) end = Shows status.Refused (handshake_line at why) end ⊎ StopsBy cause.Memory end

-- The lines of a handshake, listed: a function of those that were read. r0 and r1 are the source
-- before and after.

-- a text with a line more for each line that is heard
abbrev pub Lengthens : List ℕ → List HeardLine → List ℕ → Type 0
Lengthens old lines new = new ≡ old ++ flat_map line_text lines

-- what is written after the lines
abbrev pub last_line : Result HandshakeSize HandshakeFault → List ℕ
last_line (Ok size) = size_line size
last_line (Err fault) = []

module _ {R : Type 0} (left : R → Option (List ℕ)) (calls : R → ℕ) (packets : R → Option Packets) (packet : R → Option Packet) (r0 r1 : ReadAhead R) where
  -- the handshake was read, or none, and this is the text of its lines, or of those before the
  -- place that was reached
  abbrev pub IsListed : Side → Result HandshakeSize HandshakeFault → List ℕ → Type 0
  IsListed side read text = Reads Lengthens side left calls packets packet r0 r1 [] text read

  -- it went to a page
  abbrev pub PutsLines : {W : Type 0} → (W → Option (List ℕ)) → (W → ℕ) → Page W → Page W → Side → Result HandshakeSize HandshakeFault → Type 0
  PutsLines held failures p0 p1 side read = (text : List ℕ) × IsListed side read text × Goes held failures p0 (text ++ last_line read) p1

  -- it was gathered or written, or a write failed; g0 and g1 are what is gathered before and after
  abbrev pub GathersLines : {W : Type 0} → Writing W → Side → (g0 g1 : List ℕ) → Result HandshakeSize HandshakeFault → Result (Unit {0}) Unwritten → Type 0
  GathersLines w side g0 g1 read put = (text : List ℕ) × IsListed side read text × Gathers w.held w.failures (text ++ last_line read) g0 g1 w.old w.new put

  -- all of it was written, or a write failed
  abbrev pub WritesLines : {W : Type 0} → Writing W → Side → Result HandshakeSize HandshakeFault → Result (Unit {0}) Unwritten → Type 0
  WritesLines w side read put = GathersLines w side [] [] read put

-- the handshake was listed; or why there is none was told, after the lines before that; or a write
-- failed, which was told
abbrev pub EndsList : {E : Type 0} → Writing E → Result HandshakeSize HandshakeFault → Result (Unit {0}) Unwritten → ExitStatus → Type 0
EndsList e read (Err u) end = StopsBy e.held e.failures e.old e.new cause.WriteFailed end
EndsList e (Ok size) (Ok x) end = (end ≡ status.Done) × (e.new ≡ e.old)
EndsList e (Err fault) (Ok x) end = TellsHandshake e.held e.failures e.old e.new fault end

-- what `handshake` does
pub record Lists {R W E : Type 0} (left : R → Option (List ℕ)) (calls failures : R → ℕ) (packets : R → Option Packets) (packet : R → Option Packet) (r0 r1 : ReadAhead R) (w : Writing W) (e : Writing E) (side : Side) (end : ExitStatus) : Type 0 where
  pub read : Result HandshakeSize HandshakeFault
  pub put : Result (Unit {0}) Unwritten
  pub lines : WritesLines left calls packets packet r0 r1 w side read put
  pub counts : Counts (failures (source_of r0)) (failures (source_of r1)) read
  pub ends : EndsList e read put end
