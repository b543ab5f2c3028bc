-- What is told by numbers of an end of a handshake.
-- D-Bus Specification, "Authentication Protocol".
use Rattle.std.specs.Prelude.{◌≡◌, ◌↔◌, IsTrue, ℕ, ◌<◌, ◌≤◌, Bool, true, false, List, ◌++◌, length, drop, Option, Some, None, Result, Ok, Err, ◌+◌, ◌==◌, if◌then◌else◌}
use Rattle.std.specs.declared.alloc.AllocError.{AllocError}
use Rattle.hex.specs.Hex.{encode_lower}
use Rattle.dbus_auth.specs.declared.bounds.Bounds.{Bounds}
use Rattle.dbus_auth.specs.declared.end_step.Status.{Status}
use Rattle.dbus_auth.specs.declared.end_step.Status.TheVariants as status
use Rattle.dbus_c_auth.specs.Handshakes.{agreed_in, bounded, guid_in}
use Rattle.dbus_c_auth.specs.declared.guid_text.TheConstants.{GUID_ROOM}
use Rattle.dbus_c_auth.specs.declared.handshake.Handshake.{Handshake}
use Rattle.dbus_c_auth.specs.declared.step.Step.{Step}
use Rattle.dbus_c_auth.specs.declared.step.TakeFault.{TakeFault}
use Rattle.dbus_c_auth.specs.declared.step.TakeFault.TheVariants as fault
use Rattle.dbus_c_handle.specs.Checkers.{Goes, handshake_of, kept_as}
use Rattle.dbus_c_handle.specs.declared.kept.Kept.{Kept}
use Rattle.dbus_auth_lines.specs.Cut.{Fault, TooLong, BadByte, Beginning, WholeLine, Faulty, Unfinished}
use Rattle.dbus_auth_lines.specs.Lines.{client_meaning, command_name, server_meaning}
use Rattle.dbus_auth_lines.specs.WrittenLines.{IsExactClientLine, IsExactServerLine}
use Rattle.dbus_auth_lines.specs.WordPlaces.{AreClientPlaces, AreServerPlaces, SaysToServer, SaysToClient}
use Rattle.dbus_auth_lines.specs.declared.words.WordPlace.{WordPlace}
use Rattle.dbus_auth_lines.specs.declared.places.ClientWords.{ClientWords}
use Rattle.dbus_auth_lines.specs.declared.places.ClientWords.TheVariants as c
use Rattle.dbus_auth_lines.specs.declared.places.ServerWords.{ServerWords}
use Rattle.dbus_auth_lines.specs.declared.places.ServerWords.TheVariants as s
use Rattle.dbus_c.specs.declared.answers.TheConstants.{WHOLE, PARTIAL, REFUSED, NO_MEMORY, NO_ROOM, NO_VALUE, NO_HANDSHAKE}
use Rattle.dbus_c.specs.declared.handshakes.HandshakeStep.{HandshakeStep}
use Rattle.dbus_c.specs.declared.handshake_lines.HandshakeLine.{HandshakeLine}
use Rattle.dbus_c.specs.declared.line_command.TheConstants as command
use Rattle.dbus_c.specs.declared.parts.TextPlace.{TextPlace}

-- whether an end was made, by its number
abbrev pub made_told : Result Bool AllocError → ℕ
made_told (Ok true) = WHOLE
made_told (Ok false) = REFUSED
made_told (Err e) = NO_MEMORY

-- the end that is asked for is kept, if there is one; or memory ran out
pub data IsEndMade (asked : Option Handshake) (answer : ℕ) (new : Option Kept) : Type 0 where
  made : (h : Handshake) → asked ≡ Some h → answer ≡ WHOLE → new ≡ kept_as (Some h) → IsEndMade asked answer new
  refused : asked ≡ None → answer ≡ REFUSED → new ≡ None → IsEndMade asked answer new
  no_memory : answer ≡ NO_MEMORY → new ≡ None → IsEndMade asked answer new

-- where an end stands, by its number
abbrev pub number_of : Status → ℕ
number_of status.Talking = PARTIAL
number_of status.Begun = WHOLE
number_of status.Closed = REFUSED

abbrev pub fault_number : TakeFault → ℕ
fault_number fault.Memory = NO_MEMORY
fault_number fault.Room = NO_ROOM

abbrev pub step_told : Step → HandshakeStep
step_told s = record { count = s.count; reply = s.written }

-- what an end answers to a piece is told; or there is none, or nothing was done, and nothing is
-- told
abbrev pub IsStepTold : Option (Result Step TakeFault) → ℕ → HandshakeStep → HandshakeStep → Type 0
IsStepTold None answer old new = (answer ≡ NO_HANDSHAKE) × (new ≡ old)
IsStepTold (Some (Err f)) answer old new = (answer ≡ fault_number f) × (new ≡ old)
IsStepTold (Some (Ok s)) answer old new = (answer ≡ number_of s.status) × (new ≡ step_told s)

-- a piece is handed to the end, and what it answers is told
pub record TellsStep (before after : Option Kept) (piece old_room new_room : List ℕ) (answer : ℕ) (old new : HandshakeStep) : Type 0 where
  pub result : Option (Result Step TakeFault)
  pub goes : Goes (handshake_of before) before after piece old_room new_room result
  pub is_told : IsStepTold result answer old new

-- the digits of a GUID are written, if there is room for them
pub data IsGuidWritten (guid : List ℕ) (answer : ℕ) (old new : List ℕ) : Type 0 where
  written : GUID_ROOM ≤ length old → answer ≡ WHOLE → new ≡ encode_lower guid ++ drop GUID_ROOM old → IsGuidWritten guid answer old new
  no_room : length old < GUID_ROOM → answer ≡ NO_ROOM → new ≡ old → IsGuidWritten guid answer old new

-- a GUID's digits stand at the start of the room; or there is none, or no room for them, and the
-- room stays
abbrev pub IsGuidTold : Option (List ℕ) → ℕ → List ℕ → List ℕ → Type 0
IsGuidTold None answer old new = (answer ≡ NO_VALUE) × (new ≡ old)
IsGuidTold (Some guid) answer old new = IsGuidWritten guid answer old new

-- of the end that is kept
abbrev pub TellsGuidText : Option Handshake → ℕ → List ℕ → List ℕ → Type 0
TellsGuidText None answer old new = (answer ≡ NO_HANDSHAKE) × (new ≡ old)
TellsGuidText (Some h) answer old new = IsGuidTold (guid_in h) answer old new

-- the end that is kept may send so much; or there is none, and nothing is changed
abbrev pub IsBoundTold : Bounds → Option Handshake → (old new : Option Kept) → ℕ → Type 0
IsBoundTold b (Some h) old new answer = (new ≡ kept_as (Some (bounded b h))) × (answer ≡ WHOLE)
IsBoundTold b None old new answer = (new ≡ old) × (answer ≡ NO_HANDSHAKE)

-- whether both ends agreed to pass descriptors, by the end that is kept
abbrev pub agreed_told : Option Handshake → ℕ
agreed_told None = NO_HANDSHAKE
agreed_told (Some h) = if agreed_in h then WHOLE else NO_VALUE

-- What is told by numbers of the first line of what one side of a handshake sends. D-Bus
-- Specification, "Authentication Protocol", "Protocol Overview" and the section of each command.

-- where a text stands; of one without bytes all is 0
abbrev pub place_told : WordPlace → TextPlace
place_told p = if p.length == 0 then record { offset = 0; length = 0; is_there = 0 } else record { offset = p.at; length = p.length; is_there = 1 }

abbrev pub nowhere : WordPlace
nowhere = record { at = 0; length = 0 }

-- of a line of this length
abbrev pub line_told : ℕ → (exact : Bool) → (command : ℕ) → (mechanism text : WordPlace) → HandshakeLine
line_told n exact command mechanism text =
    record { length = n; offset = 0; command = command; is_too_long = 0; is_exact = if exact then 1 else 0; mechanism = place_told mechanism; text = place_told text }

abbrev pub client_told : ℕ → (exact : Bool) → ClientWords → HandshakeLine
client_told n exact c.Auth = line_told n exact command.AUTH nowhere nowhere
client_told n exact (c.AuthBy mech response) = line_told n exact command.AUTH mech response
client_told n exact c.Cancel = line_told n exact command.CANCEL nowhere nowhere
client_told n exact c.Begin = line_told n exact command.BEGIN nowhere nowhere
client_told n exact (c.DataOf digits) = line_told n exact command.DATA nowhere digits
client_told n exact (c.Error text) = line_told n exact command.ERROR nowhere text
client_told n exact c.Negotiate = line_told n exact command.NEGOTIATE_UNIX_FD nowhere nowhere
client_told n exact c.Other = line_told n exact command.OTHER nowhere nowhere

abbrev pub server_told : ℕ → (exact : Bool) → ServerWords → HandshakeLine
server_told n exact (s.Rejected mechanisms) = line_told n exact command.REJECTED nowhere mechanisms
server_told n exact (s.Accepted digits) = line_told n exact command.OK nowhere digits
server_told n exact (s.DataOf digits) = line_told n exact command.DATA nowhere digits
server_told n exact (s.Error text) = line_told n exact command.ERROR nowhere text
server_told n exact s.Agree = line_told n exact command.AGREE_UNIX_FD nowhere nowhere
server_told n exact s.Other = line_told n exact command.OTHER nowhere nowhere

-- of a line, here without its CR LF, what it means is told with the words' own places, and whether
-- it is exact
pub record HasClientLine (line : List ℕ) (told : HandshakeLine) : Type 0 where
  pub words : ClientWords
  pub says : SaysToServer line words (client_meaning line)
  pub places : AreClientPlaces line (length (command_name line)) words
  pub exact : Bool
  pub decided : IsTrue exact ↔ IsExactClientLine line
  pub is_told : told ≡ client_told (length line + 2) exact words

pub record HasServerLine (line : List ℕ) (told : HandshakeLine) : Type 0 where
  pub words : ServerWords
  pub says : SaysToClient line words (server_meaning line)
  pub places : AreServerPlaces line (length (command_name line)) words
  pub exact : Bool
  pub decided : IsTrue exact ↔ IsExactServerLine line
  pub is_told : told ≡ server_told (length line + 2) exact words

-- where more bytes are wanted
abbrev pub nothing_told : HandshakeLine
nothing_told = line_told 0 false 0 nowhere nowhere

-- of a fault: that the line is too long, or the place of the byte
abbrev pub fault_told : Fault → HandshakeLine
fault_told TooLong = record nothing_told { is_too_long = 1 }
fault_told (BadByte at) = record nothing_told { offset = at }

-- an answer and what is told beside it, by how the bytes begin
abbrev pub TellsLine : (List ℕ → HandshakeLine → Type 0) → Beginning → ℕ → HandshakeLine → Type 0
TellsLine Has (WholeLine line) answer told = (answer ≡ WHOLE) × Has line told
TellsLine Has (Faulty f) answer told = (answer ≡ REFUSED) × (told ≡ fault_told f)
TellsLine Has Unfinished answer told = (answer ≡ PARTIAL) × (told ≡ nothing_told)
