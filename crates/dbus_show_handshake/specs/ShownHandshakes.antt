-- The text of a handshake: a line for each line that the side sent.
use Rattle.std.specs.Prelude.{ℕ, List, [], ◌∷◌, ◌++◌, Bool, codes, nat_lt, if◌then◌else◌, decimal}
use Rattle.std.specs.List.{flat_map, list_any}
use Rattle.hex.specs.Hex.{encode_lower}
use Rattle.dbus_auth_lines.specs.ClientCommands.{ClientCommand}
use Rattle.dbus_auth_lines.specs.ClientCommands as client
use Rattle.dbus_auth_lines.specs.ServerCommands.{ServerCommand}
use Rattle.dbus_auth_lines.specs.ServerCommands as server
use Rattle.dbus_show.specs.ShownValues.{quoted}
use Rattle.dbus_auth_lines.specs.Lines.{client_meaning, server_meaning}
use Rattle.dbus_handshake_input.specs.Heard.{HeardLine}
use Rattle.dbus_handshake_input.specs.declared.side.Side.{Side}
use Rattle.dbus_handshake_input.specs.declared.side.Side.TheVariants.{Client, Server}
use Rattle.dbus_handshake_input.specs.declared.size.HandshakeSize.{HandshakeSize}

-- What a line of a handshake says, in words. D-Bus Specification, "Authentication Protocol",
-- "Protocol Overview".

-- whether a byte is not ASCII
abbrev pub has_other : List ℕ → Bool
has_other bytes = list_any (λ b. nat_lt 127 b) bytes

-- bytes as they are shown: a text between quotation marks, with its escapes, if all are ASCII; else
-- in hexadecimal
abbrev pub shown : List ℕ → List ℕ
shown bytes = if has_other bytes then encode_lower bytes else quoted bytes

-- the initial response of a client: of none nothing
abbrev pub response_words : List ℕ → List ℕ
response_words [] = []
response_words (b ∷ bs) = codes " as " ++ shown (b ∷ bs)

-- a mechanism that a server offers
abbrev pub offer : List ℕ → List ℕ
offer mechanism = codes " " ++ shown mechanism

abbrev pub client_sentence : ClientCommand → List ℕ
client_sentence client.Auth = codes "asks for mechanisms"
client_sentence (client.AuthBy mech response) = codes "asks for " ++ (shown mech ++ response_words response)
client_sentence client.Cancel = codes "gives up"
client_sentence client.Begin = codes "begins messages"
client_sentence (client.DataOf bytes) = codes "data " ++ shown bytes
client_sentence (client.Error text) = codes "error " ++ shown text
client_sentence client.Negotiate = codes "asks for descriptors"
client_sentence client.Other = []

abbrev pub server_sentence : ServerCommand → List ℕ
server_sentence (server.Rejected mechanisms) = codes "refuses; offers:" ++ flat_map offer mechanisms
server_sentence (server.Accepted guid) = codes "accepts, GUID " ++ encode_lower guid
server_sentence (server.DataOf bytes) = codes "data " ++ shown bytes
server_sentence (server.Error text) = codes "error " ++ shown text
server_sentence server.Agree = codes "agrees to descriptors"
server_sentence server.Other = []

-- what a line of the side says
abbrev pub sentence : Side → List ℕ → List ℕ
sentence Client line = client_sentence (client_meaning line)
sentence Server line = server_sentence (server_meaning line)

-- its offset, and the line
abbrev pub line_start : (offset : ℕ) → List ℕ → List ℕ
line_start offset line = decimal offset ++ (codes ": " ++ (shown line ++ codes ": "))

abbrev pub line_text : HeardLine → List ℕ
line_text h = line_start h.offset h.line ++ (sentence h.side h.line ++ codes "\n")

-- how many lines and bytes it has
abbrev pub size_line : HandshakeSize → List ℕ
size_line size = codes "ok " ++ (decimal size.lines ++ (codes " lines " ++ (decimal size.bytes ++ codes " bytes\n")))
