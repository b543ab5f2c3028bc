-- The handshake of one side of a connection, up to its messages, and why bytes begin with none.
-- AtEnd says that no byte follows. D-Bus Specification, "Authentication Protocol".
use Rattle.std.specs.Prelude.{ℕ, ◌≡◌, ◌≢◌, ◌<◌, ◌≤◌, ◌+◌, ◌⊎◌, List, [], ◌∷◌, ◌++◌, length, codes}
use Rattle.std.specs.List.{AllByRecursion, flat_map}
use Rattle.dbus_auth_lines.specs.ClientCommands.{ClientCommand}
use Rattle.dbus_auth_lines.specs.ClientCommands as client
use Rattle.dbus_auth_lines.specs.ServerCommands.{ServerCommand}
use Rattle.dbus_auth_lines.specs.ServerCommands as server
use Rattle.dbus_auth_lines.specs.Cut.{IsLine, IsUnfinished, IsTooLong, IsBadByte}
use Rattle.dbus_auth_lines.specs.LineForms.{IsClientLine, IsServerLine}
use Rattle.dbus_auth_lines.specs.Lines.{ended}
use Rattle.dbus_handshake_input.specs.declared.side.Side.{Side}
use Rattle.dbus_handshake_input.specs.declared.side.Side.TheVariants.{Client, Server}
use Rattle.dbus_handshake_input.specs.declared.fault.HandshakeReason.{HandshakeReason}
use Rattle.dbus_handshake_input.specs.declared.fault.HandshakeReason.TheVariants as reason

-- what comes before the lines of a side
abbrev pub greeting : Side → List ℕ
greeting Client = 0 ∷ []
greeting Server = []

-- the line is a command of the side
abbrev pub IsCommand : Side → List ℕ → Type 0
IsCommand Client line = (c : ClientCommand) × IsClientLine line c
IsCommand Server line = (c : ServerCommand) × IsServerLine line c

-- the line after which a client's messages begin
abbrev pub IsBegin : Side → List ℕ → Type 0
IsBegin Client line = IsClientLine line client.Begin
IsBegin Server line = ⊥

-- a line after which a server's messages may begin
abbrev pub IsOk : Side → List ℕ → Type 0
IsOk Client line = ⊥
IsOk Server line = (guid : List ℕ) × IsServerLine line (server.Accepted guid)

abbrev pub HasOk : Side → List (List ℕ) → Type 0
HasOk side [] = ⊥
HasOk side (line ∷ lines) = IsOk side line ⊎ HasOk side lines

-- a line of the side which is not its last one, as far as the line itself says
pub record GoesOn (side : Side) (line : List ℕ) : Type 0 where
  pub is_line : IsLine line
  pub command : IsCommand side line
  pub not_begin : IsBegin side line → ⊥

-- what a side sends that has sent these lines, each with its CR LF
abbrev pub sent : Side → List (List ℕ) → List ℕ
sent side lines = greeting side ++ flat_map ended lines

-- nothing follows, or a byte that begins a message, its byte order, and no line
abbrev pub MessagesFollow : List ℕ → (AtEnd : Type 0) → Type 0
MessagesFollow [] AtEnd = AtEnd
MessagesFollow (b ∷ more) AtEnd = (b ≡ 108) ⊎ (b ≡ 66)

-- a byte follows that begins no message
abbrev pub BeginsNoMessage : List ℕ → Type 0
BeginsNoMessage [] = ⊥
BeginsNoMessage (b ∷ more) = (b ≢ 108) × (b ≢ 66)

-- the lines are all that a side sends before its messages, and these bytes follow
pub data AreAllLines (side : Side) (lines : List (List ℕ)) (next : List ℕ) (AtEnd : Type 0) : Type 0 where
  begun : (before : List (List ℕ)) (last : List ℕ) → AllByRecursion (GoesOn side) before → IsLine last → IsBegin side last
      → lines ≡ before ++ last ∷ [] → length lines ≤ 1024 → AreAllLines side lines next AtEnd
  accepted : AllByRecursion (GoesOn side) lines → HasOk side lines → MessagesFollow next AtEnd → length lines ≤ 1024 → AreAllLines side lines next AtEnd

-- the bytes are all that a side sends before its messages, and these bytes follow
abbrev pub IsHandshake : Side → (bytes next : List ℕ) → (AtEnd : Type 0) → Type 0
IsHandshake side bytes next AtEnd = (lines : List (List ℕ)) × AreAllLines side lines next AtEnd × (bytes ≡ sent side lines)

-- the bytes begin with no line of the side, for this reason, at this place in them
abbrev pub IsNoLine : Side → List ℕ → (AtEnd : Type 0) → (at : ℕ) → HandshakeReason → Type 0
IsNoLine side bytes AtEnd at reason.FirstByte = ⊥
IsNoLine side bytes AtEnd at reason.LineTooLong = IsTooLong bytes × (at ≡ 16382)
IsNoLine side bytes AtEnd at reason.LineByte = IsBadByte bytes at
IsNoLine side bytes AtEnd at reason.NoCommand =
    (line : List ℕ) × (more : List ℕ) × (bytes ≡ ended line ++ more) × IsLine line × (IsCommand side line → ⊥) × (at ≡ 0)
IsNoLine side bytes AtEnd at reason.Truncated = IsUnfinished bytes × AtEnd × (at ≡ length bytes)
IsNoLine side bytes AtEnd at reason.TooManyLines = ⊥

-- the bytes begin with these lines of the side, and then with what makes them no handshake, for
-- this reason, at this place
pub data BreaksAfter (side : Side) (lines : List (List ℕ)) (bytes : List ℕ) (AtEnd : Type 0) (at : ℕ) (why : HandshakeReason) : Type 0 where
  first_byte : (b : ℕ) (more : List ℕ) → side ≡ Client → lines ≡ [] → bytes ≡ b ∷ more → b ≢ 0 → at ≡ 0 → why ≡ reason.FirstByte → BreaksAfter side lines bytes AtEnd at why
  nothing : side ≡ Client → lines ≡ [] → bytes ≡ [] → AtEnd → at ≡ 0 → why ≡ reason.Truncated → BreaksAfter side lines bytes AtEnd at why
  no_line : (rest : List ℕ) (place : ℕ) → AllByRecursion (GoesOn side) lines → length lines < 1024
      → (HasOk side lines → BeginsNoMessage rest) → bytes ≡ sent side lines ++ rest → IsNoLine side rest AtEnd place why
      → at ≡ length (sent side lines) + place → BreaksAfter side lines bytes AtEnd at why
  too_many : (rest : List ℕ) → AllByRecursion (GoesOn side) lines → length lines ≡ 1024
      → (HasOk side lines → BeginsNoMessage rest) → bytes ≡ sent side lines ++ rest
      → at ≡ length (sent side lines) → why ≡ reason.TooManyLines → BreaksAfter side lines bytes AtEnd at why

-- the bytes begin with no handshake of the side, for this reason, at this place
abbrev pub IsNoHandshake : Side → (bytes : List ℕ) → (AtEnd : Type 0) → (at : ℕ) → HandshakeReason → Type 0
IsNoHandshake side bytes AtEnd at why = (lines : List (List ℕ)) × BreaksAfter side lines bytes AtEnd at why

-- The texts of the reasons why bytes begin with no handshake.

abbrev pub handshake_reason_text : HandshakeReason → List ℕ
handshake_reason_text reason.FirstByte = codes "FirstByte"
handshake_reason_text reason.LineTooLong = codes "LineTooLong"
handshake_reason_text reason.LineByte = codes "LineByte"
handshake_reason_text reason.NoCommand = codes "NoCommand"
handshake_reason_text reason.Truncated = codes "Truncated"
handshake_reason_text reason.TooManyLines = codes "TooManyLines"
