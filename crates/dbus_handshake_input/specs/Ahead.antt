-- What a source that reads ahead keeps, and what was taken from it.
-- D-Bus Specification, "Authentication Protocol".
use Rattle.std.specs.Prelude.{ℕ, ◌≡◌, ◌≢◌, ◌⊎◌, ◌<◌, ◌≤◌, ◌+◌, ◌^◌, ◌%◌, ◌++◌, Bool, true, false, List, [], length, slice_range, Option, Result, Ok, Err}
use Rattle.std.specs.Io.KnownBytes.{Consumes, IsAtEnd}
use Rattle.dbus_device.specs.Device.{one_more, RisesBy}
use Rattle.dbus_device.specs.declared.device_fault.DeviceFault.{DeviceFault}
use Rattle.dbus_device.specs.declared.packet.Packet.{Packet}
use Rattle.dbus_device.specs.Packets.{Packets, PacketsAfter, prepend_packets}
use Rattle.dbus_handshake_input.specs.declared.read_ahead.ReadAhead.{ReadAhead}

-- the device below
abbrev pub source_of : {R : Type 0} → ReadAhead R → R
source_of s = s.source

-- the bytes that it read and has not given yet
abbrev pub kept_of : {R : Type 0} → ReadAhead R → List ℕ
kept_of s = slice_range s.bytes s.start s.end

-- how many calls were answered by bytes that were kept, since some were read
abbrev pub answered_of : {R : Type 0} → ReadAhead R → ℕ
answered_of s = s.answered

-- how often it was called: each call was one of the device below, or was answered by bytes that
-- were kept
abbrev pub calls_of : {R : Type 0} → (R → ℕ) → ReadAhead R → ℕ
calls_of calls s = (calls (source_of s) + answered_of s) % 2 ^ 64

-- Of which packet each byte is that it has not given yet, if the device below reports that: it read
-- the bytes that are kept at once, last.
abbrev pub packets_of : {R : Type 0} → (R → Option Packets) → (R → Option Packet) → ReadAhead R → Option Packets
packets_of packets packet s = prepend_packets (length (kept_of s)) (packet (source_of s)) (packets (source_of s))

-- the device below was not called, and no call was answered
pub record Rests {R : Type 0} (old new : ReadAhead R) : Type 0 where
  pub source : source_of new ≡ source_of old
  pub answered : answered_of new ≡ answered_of old

-- These bytes were taken: what was kept and then read is these bytes and what is kept now. The
-- device below was called for what was read, each time only once nothing was kept; at most so many
-- of these calls gave no byte. What is left is of the packets that it was of.
pub record Took {R : Type 0} (left : R → Option (List ℕ)) (calls : R → ℕ) (packets : R → Option Packets) (packet : R → Option Packet) (idle : ℕ) (old new : ReadAhead R) (bytes : List ℕ) : Type 0 where
  pub read : List ℕ
  pub consumed : Consumes (left (source_of old)) (left (source_of new)) read
  pub joined : kept_of old ++ read ≡ bytes ++ kept_of new
  pub count : ℕ
  pub called : RisesBy count (calls (source_of old)) (calls (source_of new))
  pub gave : count ≤ length read + idle
  -- a call for each byte that was taken, at most, and one more
  pub few : 0 < count → count + length (kept_of old) ≤ length bytes + 1
  pub answered : answered_of new ≤ answered_of old
  pub of_packets : PacketsAfter (length bytes) (packets_of packets packet old) (packets_of packets packet new)

-- a call of `read` into so much room was answered by bytes that were kept
pub record IsAnswered {R : Type 0} (old new : ReadAhead R) (room : ℕ) : Type 0 where
  pub some : kept_of old ≢ []
  pub fits : 0 < room
  pub source : source_of new ≡ source_of old
  pub answered : answered_of new ≡ answered_of old + 1

-- it was one call of the device below, since nothing was kept or there was no room
pub record IsPassedOn {R : Type 0} (calls : R → ℕ) (old new : ReadAhead R) (room : ℕ) : Type 0 where
  pub none : (kept_of old ≡ []) ⊎ (room ≡ 0)
  pub called : calls (source_of new) ≡ one_more (calls (source_of old))
  pub answered : answered_of new ≡ answered_of old

-- whether bytes are kept; if none are, the input is at its end
abbrev pub HasMore : {R : Type 0} → (R → Option (List ℕ)) → ReadAhead R → Result Bool DeviceFault → Type 0
HasMore left new (Ok true) = kept_of new ≢ []
HasMore left new (Ok false) = (kept_of new ≡ []) × IsAtEnd (left (source_of new))
HasMore left new (Err e) = kept_of new ≡ []

-- a call of the device gave nothing, at most, unless the answer is this
abbrev pub idle_unless : Bool → Result Bool DeviceFault → ℕ
idle_unless true (Ok true) = 0
idle_unless true (Ok false) = 1
idle_unless false (Ok true) = 1
idle_unless false (Ok false) = 0
idle_unless on (Err e) = 1
