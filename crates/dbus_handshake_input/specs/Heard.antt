-- What a visitor hears of the lines of a side, and what a call does that reads them to it.
-- D-Bus Specification, "Authentication Protocol".
use Rattle.std.specs.Prelude.{ℕ, ◌≡◌, ◌↔◌, ◌++◌, Bool, true, false, List, Vec, Option, Result, Ok, Err, ◌+◌, ◌⊎◌, [], ◌∷◌, length}
use Rattle.std.specs.Io.KnownBytes.{IsAtEnd}
use Rattle.std.specs.List.{AllByRecursion}
use Rattle.dbus_device.specs.Packets.{Packets}
use Rattle.dbus_device.specs.declared.packet.Packet.{Packet}
use Rattle.dbus_auth_lines.specs.ClientCommands.{ClientCommand}
use Rattle.dbus_auth_lines.specs.ClientCommands as client
use Rattle.dbus_auth_lines.specs.ServerCommands.{ServerCommand}
use Rattle.dbus_auth_lines.specs.ServerCommands as server
use Rattle.dbus_auth_lines.specs.Cut.{IsLine}
use Rattle.dbus_auth_lines.specs.Lines.{ended}
use Rattle.dbus_auth_lines.specs.declared.cutter.LineFault.{LineFault}
use Rattle.dbus_auth_lines.specs.declared.cutter.LineFault.TheVariants as line_fault
use Rattle.dbus_handshake_input.specs.Ahead.{source_of, kept_of, Took}
use Rattle.dbus_handshake_input.specs.Handshakes.{IsCommand, IsBegin, IsOk, IsNoLine, greeting, sent, GoesOn, AreAllLines, BreaksAfter}
use Rattle.dbus_handshake_input.specs.declared.read_ahead.ReadAhead.{ReadAhead}
use Rattle.dbus_handshake_input.specs.declared.lines.Said.{Said}
use Rattle.dbus_handshake_input.specs.declared.lines.Said.TheVariants as says
use Rattle.dbus_handshake_input.specs.declared.side.Side.{Side}
use Rattle.dbus_handshake_input.specs.declared.fault.HandshakeReason.TheVariants as reason
use Rattle.dbus_handshake_input.specs.declared.fault.HandshakeFault.{HandshakeFault}
use Rattle.dbus_handshake_input.specs.declared.fault.HandshakeFault.TheVariants.{Memory, Device, Refused}
use Rattle.dbus_handshake_input.specs.declared.size.HandshakeSize.{HandshakeSize}

-- What is read of one line, and what a line says of the handshake.

-- a line was taken with its CR LF, or what was read begins with none
abbrev pub ReadsLine : {R Z : Type 0} → (R → Option (List ℕ)) → (R → ℕ) → (R → Option Packets) → (R → Option Packet) → (side : Side) → ReadAhead R → ReadAhead R → Result (Vec ℕ Z) HandshakeFault → Type 0
ReadsLine left calls packets packet side old new (Ok line) = IsLine line.items × Took left calls packets packet 0 old new (ended line.items)
ReadsLine left calls packets packet side old new (Err Memory) = (bytes : List ℕ) × Took left calls packets packet 1 old new bytes
ReadsLine left calls packets packet side old new (Err Device) = (bytes : List ℕ) × Took left calls packets packet 1 old new bytes
ReadsLine left calls packets packet side old new (Err (Refused at why)) = (bytes : List ℕ) × Took left calls packets packet 1 old new bytes
    × IsNoLine side (bytes ++ kept_of new) (IsAtEnd (left (source_of new))) at why

-- what a line says
abbrev pub Says : Side → List ℕ → Said → Type 0
Says side line says.Begin = IsBegin side line
Says side line (says.GoesOn is_ok) = IsCommand side line × (IsBegin side line → ⊥) × ((is_ok ≡ true) ↔ IsOk side line)
Says side line says.Nothing = IsCommand side line → ⊥

-- it is no command
abbrev pub is_nothing : Said → Bool
is_nothing says.Begin = false
is_nothing (says.GoesOn is_ok) = false
is_nothing says.Nothing = true

-- the fault of a line that the cutter gives
abbrev pub refusal_of : LineFault → HandshakeFault
refusal_of line_fault.Memory = Memory
refusal_of line_fault.TooLong = Refused 16382 reason.LineTooLong
refusal_of (line_fault.BadByte at) = Refused at reason.LineByte

-- what a command says
abbrev pub client_says : ClientCommand → Said
client_says client.Auth = says.GoesOn false
client_says (client.AuthBy mech response) = says.GoesOn false
client_says client.Cancel = says.GoesOn false
client_says client.Begin = says.Begin
client_says (client.DataOf bytes) = says.GoesOn false
client_says (client.Error text) = says.GoesOn false
client_says client.Negotiate = says.GoesOn false
client_says client.Other = says.Nothing

abbrev pub server_says : ServerCommand → Said
server_says (server.Rejected mechanisms) = says.GoesOn false
server_says (server.Accepted guid) = says.GoesOn true
server_says (server.DataOf bytes) = says.GoesOn false
server_says (server.Error text) = says.GoesOn false
server_says server.Agree = says.GoesOn false
server_says server.Other = says.Nothing

-- a line without its CR LF, the side that sent it, and its offset in what that side sent
pub record HeardLine : Type 0 where
  pub side : Side
  pub offset : ℕ
  pub line : List ℕ

abbrev pub heard_line : Side → ℕ → List ℕ → HeardLine
heard_line side offset line = record { side = side; offset = offset; line = line }

-- lines that follow one another from an offset on
abbrev pub heard_from : Side → (offset : ℕ) → List (List ℕ) → List HeardLine
heard_from side offset [] = []
heard_from side offset (line ∷ lines) = heard_line side offset line ∷ heard_from side (offset + length (ended line)) lines

-- the lines of a side
abbrev pub heard : Side → List (List ℕ) → List HeardLine
heard side lines = heard_from side (length (greeting side)) lines

-- how many lines and bytes the side sent
abbrev pub IsSize : Side → List (List ℕ) → HandshakeSize → Type 0
IsSize side lines size = (size.lines ≡ length lines) × (size.bytes ≡ length (sent side lines))

module _ {V : Type 0} (hears : V → List HeardLine → V → Type 0) (side : Side) where
  -- a line was heard if it is a command of the side, and what it says is the answer; or memory was
  -- wanted
  abbrev pub HearsLine : {E : Type 0} → (offset : ℕ) → List ℕ → V → V → Result Said E → Type 0
  HearsLine offset line old new (Ok says.Begin) = Says side line says.Begin × hears old (heard_line side offset line ∷ []) new
  HearsLine offset line old new (Ok (says.GoesOn is_ok)) = Says side line (says.GoesOn is_ok) × hears old (heard_line side offset line ∷ []) new
  HearsLine offset line old new (Ok says.Nothing) = Says side line says.Nothing × (new ≡ old)
  HearsLine offset line old new (Err e) = new ≡ old

  -- lines of the side were heard that the bytes begin with
  pub record HearsSome (bytes : List ℕ) (old new : V) : Type 0 where
    pub lines : List (List ℕ)
    pub each : AllByRecursion (GoesOn side) lines
    pub front : (lines ≡ []) ⊎ ((rest : List ℕ) × (bytes ≡ sent side lines ++ rest))
    pub heard_are : hears old (heard side lines) new

  -- a handshake of the side was taken, what is kept then follows it, and each of its lines was
  -- heard; or what was read begins with none, and each line before the place of that was heard
  abbrev pub Reads : {R : Type 0} → (R → Option (List ℕ)) → (R → ℕ) → (R → Option Packets) → (R → Option Packet) → ReadAhead R → ReadAhead R → V → V → Result HandshakeSize HandshakeFault → Type 0
  Reads left calls packets packet old new before after (Ok size) = (lines : List (List ℕ)) × Took left calls packets packet 1 old new (sent side lines)
      × AreAllLines side lines (kept_of new) (IsAtEnd (left (source_of new))) × hears before (heard side lines) after × IsSize side lines size
  Reads left calls packets packet old new before after (Err Memory) = (bytes : List ℕ) × Took left calls packets packet 1 old new bytes × HearsSome bytes before after
  Reads left calls packets packet old new before after (Err Device) = (bytes : List ℕ) × Took left calls packets packet 1 old new bytes × HearsSome bytes before after
  Reads left calls packets packet old new before after (Err (Refused at why)) = (bytes : List ℕ) × Took left calls packets packet 1 old new bytes
      × ((lines : List (List ℕ)) × BreaksAfter side lines (bytes ++ kept_of new) (IsAtEnd (left (source_of new))) at why × hears before (heard side lines) after)
