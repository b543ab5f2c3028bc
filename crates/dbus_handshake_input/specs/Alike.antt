-- One law for the handshake: what is read of it is one thing for each input.
-- D-Bus Specification, "Authentication Protocol".
use Rattle.std.specs.Prelude.{◌≡◌, ℕ, List, ◌++◌, length, Option, Some, Result, Ok, Err, IfOk}
use Rattle.std.specs.Io.KnownBytes.{prepend_known}
use Rattle.dbus_device.specs.Packets.{Packets, PacketsAfter}
use Rattle.dbus_device.specs.declared.packet.Packet.{Packet}
use Rattle.dbus_handshake_input.specs.Ahead.{source_of, kept_of, packets_of}
use Rattle.dbus_handshake_input.specs.Handshakes.{sent}
use Rattle.dbus_handshake_input.specs.Heard.{HeardLine, Reads, heard}
use Rattle.dbus_handshake_input.specs.Passing.{Passes}
use Rattle.dbus_handshake_input.specs.declared.fault.HandshakeFault.{HandshakeFault}
use Rattle.dbus_handshake_input.specs.declared.fault.HandshakeFault.TheVariants.{Memory, Device, Refused}
use Rattle.dbus_handshake_input.specs.declared.read_ahead.ReadAhead.{ReadAhead}
use Rattle.dbus_handshake_input.specs.declared.side.Side.{Side}
use Rattle.dbus_handshake_input.specs.declared.size.HandshakeSize.{HandshakeSize}

-- memory sufficed, and no read failed
abbrev pub IsOfInput : {T : Type 0} → Result T HandshakeFault → Type 0
IsOfInput (Ok x) = Unit {0}
IsOfInput (Err Memory) = ⊥
IsOfInput (Err Device) = ⊥
IsOfInput (Err (Refused at why)) = Unit {0}

-- what a source that reads ahead has left
abbrev pub left_in : {R : Type 0} → (R → Option (List ℕ)) → ReadAhead R → Option (List ℕ)
left_in left s = prepend_known (kept_of s) (left (source_of s))

-- after these bytes of the input both sources have what follows them
abbrev pub FollowsAlike : {R S : Type 0} → (R → Option (List ℕ)) → (S → Option (List ℕ)) → (input bytes : List ℕ) → ReadAhead R → ReadAhead S → Type 0
FollowsAlike left other_left input bytes r s = (rest : List ℕ) × (input ≡ bytes ++ rest) × (left_in left r ≡ Some rest) × (left_in other_left s ≡ Some rest)

module _ {R S : Type 0} (left : R → Option (List ℕ)) (calls : R → ℕ) (packets : R → Option Packets) (packet : R → Option Packet) (other_left : S → Option (List ℕ)) (other_calls : S → ℕ) (other_packets : S → Option Packets) (other_packet : S → Option Packet) where
  -- and what follows them is of the packets that it was of
  abbrev pub GoesOnAlike : (input bytes : List ℕ) → ReadAhead R → ReadAhead R → ReadAhead S → ReadAhead S → Type 0
  GoesOnAlike input bytes r0 r1 s0 s1 = FollowsAlike left other_left input bytes r1 s1 × PacketsAfter (length bytes) (packets_of packets packet r0) (packets_of packets packet r1)
      × PacketsAfter (length bytes) (packets_of other_packets other_packet s0) (packets_of other_packets other_packet s1)

  -- two calls that read the handshake of a side from the same input, and for which memory sufficed
  -- and no read failed, say the same, and both visitors heard the same lines; and if that is a
  -- handshake, both sources are left at its end
  abbrev pub OneHandshake : {V U : Type 0} → (V → List HeardLine → V → Type 0) → (U → List HeardLine → U → Type 0) → Type 0
  OneHandshake {V} {U} hears other_hears = (side : Side) (input : List ℕ) (r0 r1 : ReadAhead R) (s0 s1 : ReadAhead S) (v0 v1 : V) (u0 u1 : U) (a b : Result HandshakeSize HandshakeFault)
      → left_in left r0 ≡ Some input → left_in other_left s0 ≡ Some input → IsOfInput a → IsOfInput b
      → Reads hears side left calls packets packet r0 r1 v0 v1 a → Reads other_hears side other_left other_calls other_packets other_packet s0 s1 u0 u1 b
      → (lines : List (List ℕ)) × (a ≡ b) × hears v0 (heard side lines) v1 × other_hears u0 (heard side lines) u1 × IfOk a (λ size. GoesOnAlike input (sent side lines) r0 r1 s0 s1)

  -- the same of calls that pass over it
  abbrev pub OnePassing : Type 0
  OnePassing = (side : Side) (input : List ℕ) (r0 r1 : ReadAhead R) (s0 s1 : ReadAhead S) (a b : Result (Unit {0}) HandshakeFault)
      → left_in left r0 ≡ Some input → left_in other_left s0 ≡ Some input → IsOfInput a → IsOfInput b
      → Passes left calls packets packet side r0 r1 a → Passes other_left other_calls other_packets other_packet side s0 s1 b
      → (a ≡ b) × IfOk a (λ x. (bytes : List ℕ) × GoesOnAlike input bytes r0 r1 s0 s1)
