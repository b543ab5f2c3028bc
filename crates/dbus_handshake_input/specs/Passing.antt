-- What a call does that reads a handshake. D-Bus Specification, "Authentication Protocol".
use Rattle.std.specs.Prelude.{ℕ, ◌≡◌, ◌≢◌, ◌≤◌, ◌+◌, ◌⊎◌, ◌++◌, Bool, true, false, List, [], ◌∷◌, length, Option, Result, Ok, Err}
use Rattle.std.specs.Io.KnownBytes.{IsAtEnd}
use Rattle.dbus_device.specs.Packets.{Packets}
use Rattle.dbus_device.specs.declared.packet.Packet.{Packet}
use Rattle.dbus_device.specs.Device.{one_more}
use Rattle.dbus_device.specs.declared.device_fault.DeviceFault.{DeviceFault}
use Rattle.dbus_handshake_input.specs.Ahead.{source_of, kept_of, Took}
use Rattle.dbus_handshake_input.specs.Handshakes.{greeting, BreaksAfter, IsHandshake, IsNoHandshake, MessagesFollow}
use Rattle.dbus_handshake_input.specs.declared.read_ahead.ReadAhead.{ReadAhead}
use Rattle.dbus_handshake_input.specs.declared.side.Side.{Side}
use Rattle.dbus_handshake_input.specs.declared.fault.HandshakeFault.{HandshakeFault}
use Rattle.dbus_handshake_input.specs.declared.fault.HandshakeFault.TheVariants.{Memory, Device, Refused}

-- a handshake of the side was taken, and what is kept then follows it; or what was read begins with
-- none
abbrev pub Passes : {R : Type 0} → (R → Option (List ℕ)) → (R → ℕ) → (R → Option Packets) → (R → Option Packet) → Side → ReadAhead R → ReadAhead R → Result (Unit {0}) HandshakeFault → Type 0
Passes left calls packets packet side old new (Ok x) = (bytes : List ℕ) × Took left calls packets packet 1 old new bytes × IsHandshake side bytes (kept_of new) (IsAtEnd (left (source_of new)))
Passes left calls packets packet side old new (Err Memory) = (bytes : List ℕ) × Took left calls packets packet 1 old new bytes
Passes left calls packets packet side old new (Err Device) = (bytes : List ℕ) × Took left calls packets packet 1 old new bytes
Passes left calls packets packet side old new (Err (Refused at why)) = (bytes : List ℕ) × Took left calls packets packet 1 old new bytes
    × IsNoHandshake side (bytes ++ kept_of new) (IsAtEnd (left (source_of new))) at why

-- a read failed exactly if that is the answer
abbrev pub Counts : {T : Type 0} → (old new : ℕ) → Result T HandshakeFault → Type 0
Counts old new (Ok x) = new ≡ old
Counts old new (Err Memory) = new ≡ old
Counts old new (Err Device) = new ≡ one_more old
Counts old new (Err (Refused at why)) = new ≡ old

-- what comes before the lines of a side was taken; or what was read begins with something else
abbrev pub Greets : {R : Type 0} → (R → Option (List ℕ)) → (R → ℕ) → (R → Option Packets) → (R → Option Packet) → Side → ReadAhead R → ReadAhead R → Result ℕ HandshakeFault → Type 0
Greets left calls packets packet side old new (Ok count) = Took left calls packets packet 0 old new (greeting side) × (count ≡ length (greeting side))
Greets left calls packets packet side old new (Err Memory) = ⊥
Greets left calls packets packet side old new (Err Device) = Took left calls packets packet 1 old new []
Greets left calls packets packet side old new (Err (Refused at why)) = Took left calls packets packet 1 old new [] × BreaksAfter side [] (kept_of new) (IsAtEnd (left (source_of new))) at why

-- the next byte, of which one is kept, begins no message
pub record IsLineNext (kept : List ℕ) : Type 0 where
  pub next : ℕ
  pub more : List ℕ
  pub kept_is : kept ≡ next ∷ more
  pub not_little : next ≢ 108
  pub not_big : next ≢ 66

-- whether a server's messages follow: not before it accepted
abbrev pub SeesMessages : {R : Type 0} → (R → Option (List ℕ)) → (accepted : Bool) → ReadAhead R → Result Bool DeviceFault → Type 0
SeesMessages left accepted new (Ok true) = (accepted ≡ true) × MessagesFollow (kept_of new) (IsAtEnd (left (source_of new)))
SeesMessages left accepted new (Ok false) = (accepted ≡ false) ⊎ IsLineNext (kept_of new)
SeesMessages left accepted new (Err e) = Unit {0}

-- a place in a line is within the line's limit
abbrev pub IsShort : HandshakeFault → Type 0
IsShort Memory = Unit {0}
IsShort Device = Unit {0}
IsShort (Refused at why) = at ≤ 16384

-- the fault of a line that begins at this place
abbrev pub placed : ℕ → HandshakeFault → HandshakeFault
placed start Memory = Memory
placed start Device = Device
placed start (Refused at why) = Refused (start + at) why
