-- Lines without their CR LF: what a line means, and how a command is written. D-Bus Specification,
-- "Authentication Protocol", "Protocol Overview" and the section of each command.
use Rattle.std.specs.Prelude.{ℕ, ◌==◌, Bool, true, List, [], ◌∷◌, ◌++◌, length, drop, codes, bytes_eq, Result, Ok, Err, if◌then◌else◌, flat_map, map}
use Rattle.hex.specs.Hex.{decode_of, encode_lower}
use Rattle.hex.specs.declared.error.FromHexError.{FromHexError}
use Rattle.dbus_auth_lines.specs.ClientCommands.{ClientCommand}
use Rattle.dbus_auth_lines.specs.ClientCommands as client
use Rattle.dbus_auth_lines.specs.ServerCommands.{ServerCommand}
use Rattle.dbus_auth_lines.specs.ServerCommands as server
use Rattle.dbus_auth_lines.specs.declared.places.ClientName.{ClientName}
use Rattle.dbus_auth_lines.specs.declared.places.ClientName.TheVariants as of_client
use Rattle.dbus_auth_lines.specs.declared.places.ServerName.{ServerName}
use Rattle.dbus_auth_lines.specs.declared.places.ServerName.TheVariants as of_server
use Rattle.dbus_auth_lines.specs.declared.lines.ClientLine.{ClientLine}
use Rattle.dbus_auth_lines.specs.declared.lines.ClientLine.TheVariants as c
use Rattle.dbus_auth_lines.specs.declared.lines.ServerLine.{ServerLine}
use Rattle.dbus_auth_lines.specs.declared.lines.ServerLine.TheVariants as s

-- the bytes up to the first space
unfoldable pub command_name : List ℕ → List ℕ
command_name [] = []
command_name (b ∷ bs) = if b == 32 then [] else b ∷ command_name bs

-- whether a text is empty or begins with a space
abbrev pub at_word_end : List ℕ → Bool
at_word_end [] = true
at_word_end (b ∷ bs) = b == 32

-- one more byte at the start of the first word
abbrev pub onto_first : ℕ → List (List ℕ) → List (List ℕ)
onto_first b [] = (b ∷ []) ∷ []
onto_first b (w ∷ ws) = (b ∷ w) ∷ ws

-- the words of a text, separated by spaces
unfoldable pub words : List ℕ → List (List ℕ)
words [] = []
words (b ∷ bs) =
    if b == 32 then words bs
    else if at_word_end bs then (b ∷ []) ∷ words bs
    else onto_first b (words bs)

-- the words after the command's name
unfoldable pub arguments : List ℕ → List (List ℕ)
arguments line = words (drop (length (command_name line)) line)

abbrev pub by_hex : {A : Type 0} → (List ℕ → A) → A → Result (List ℕ) FromHexError → A
by_hex good bad (Ok bytes) = good bytes
by_hex good bad (Err e) = bad

-- AUTH, by its words
abbrev pub auth_by : List (List ℕ) → ClientCommand
auth_by [] = client.Auth
auth_by (mech ∷ []) = client.AuthBy mech []
auth_by (mech ∷ word ∷ []) = by_hex (client.AuthBy mech) client.Other (decode_of word)
auth_by (mech ∷ word ∷ more ∷ rest) = client.Other

abbrev pub client_data : List (List ℕ) → ClientCommand
client_data [] = client.DataOf []
client_data (word ∷ []) = by_hex client.DataOf client.Other (decode_of word)
client_data (word ∷ more ∷ rest) = client.Other

abbrev pub server_data : List (List ℕ) → ServerCommand
server_data [] = server.DataOf []
server_data (word ∷ []) = by_hex server.DataOf server.Other (decode_of word)
server_data (word ∷ more ∷ rest) = server.Other

-- a command that takes no words
abbrev pub alone : {A : Type 0} → A → A → List (List ℕ) → A
alone good bad [] = good
alone good bad (w ∷ ws) = bad

-- OK, by its words
abbrev pub accepted : List (List ℕ) → ServerCommand
accepted [] = server.Other
accepted (word ∷ []) = if length word == 32 then by_hex server.Accepted server.Other (decode_of word) else server.Other
accepted (word ∷ more ∷ rest) = server.Other

abbrev pub client_name : List ℕ → ClientName
client_name name =
    if bytes_eq name (codes "AUTH") then of_client.Auth
    else if bytes_eq name (codes "CANCEL") then of_client.Cancel
    else if bytes_eq name (codes "BEGIN") then of_client.Begin
    else if bytes_eq name (codes "DATA") then of_client.Data
    else if bytes_eq name (codes "ERROR") then of_client.Error
    else if bytes_eq name (codes "NEGOTIATE_UNIX_FD") then of_client.Negotiate
    else of_client.Unknown

abbrev pub server_name : List ℕ → ServerName
server_name name =
    if bytes_eq name (codes "REJECTED") then of_server.Rejected
    else if bytes_eq name (codes "OK") then of_server.Ok
    else if bytes_eq name (codes "DATA") then of_server.Data
    else if bytes_eq name (codes "ERROR") then of_server.Error
    else if bytes_eq name (codes "AGREE_UNIX_FD") then of_server.Agree
    else of_server.Unknown

-- the rows of the table
abbrev pub client_row : ClientName → List (List ℕ) → List ℕ → ClientCommand
client_row of_client.Auth ws line = auth_by ws
client_row of_client.Cancel ws line = alone client.Cancel client.Other ws
client_row of_client.Begin ws line = alone client.Begin client.Other ws
client_row of_client.Data ws line = client_data ws
client_row of_client.Error ws line = client.Error (drop 6 line)
client_row of_client.Negotiate ws line = alone client.Negotiate client.Other ws
client_row of_client.Unknown ws line = client.Other

abbrev pub server_row : ServerName → List (List ℕ) → List ℕ → ServerCommand
server_row of_server.Rejected ws line = server.Rejected ws
server_row of_server.Ok ws line = accepted ws
server_row of_server.Data ws line = server_data ws
server_row of_server.Error ws line = server.Error (drop 6 line)
server_row of_server.Agree ws line = alone server.Agree server.Other ws
server_row of_server.Unknown ws line = server.Other

-- what a line means
unfoldable pub client_meaning : List ℕ → ClientCommand
client_meaning line = client_row (client_name (command_name line)) (arguments line) line

unfoldable pub server_meaning : List ℕ → ServerCommand
server_meaning line = server_row (server_name (command_name line)) (arguments line) line

-- ---- writing

-- a space and the word
abbrev pub spaced : List ℕ → List ℕ
spaced word = 32 ∷ word

-- empty bytes are written as no word
abbrev pub hex_word : List ℕ → List ℕ
hex_word [] = []
hex_word (b ∷ bs) = spaced (encode_lower (b ∷ bs))

abbrev pub text_word : List ℕ → List ℕ
text_word [] = []
text_word (b ∷ bs) = spaced (b ∷ bs)

-- the written line without its CR LF; of Other, which is not written, nothing
abbrev pub client_line : ClientCommand → List ℕ
client_line client.Auth = codes "AUTH"
client_line (client.AuthBy mech response) = codes "AUTH " ++ mech ++ hex_word response
client_line client.Cancel = codes "CANCEL"
client_line client.Begin = codes "BEGIN"
client_line (client.DataOf bytes) = codes "DATA" ++ hex_word bytes
client_line (client.Error text) = codes "ERROR" ++ text_word text
client_line client.Negotiate = codes "NEGOTIATE_UNIX_FD"
client_line client.Other = []

abbrev pub server_line : ServerCommand → List ℕ
server_line (server.Rejected mechanisms) = codes "REJECTED" ++ flat_map spaced mechanisms
server_line (server.Accepted guid) = codes "OK" ++ hex_word guid
server_line (server.DataOf bytes) = codes "DATA" ++ hex_word bytes
server_line (server.Error text) = codes "ERROR" ++ text_word text
server_line server.Agree = codes "AGREE_UNIX_FD"
server_line server.Other = []

abbrev pub crlf : List ℕ
crlf = 13 ∷ 10 ∷ []

abbrev pub ended : List ℕ → List ℕ
ended line = line ++ crlf

-- What a line of the code says, without where its bytes lie in memory.

abbrev pub client_command : {A : Type 0} → ClientLine A → ClientCommand
client_command c.Auth = client.Auth
client_command (c.AuthBy mech response) = client.AuthBy mech.items response.items
client_command c.Cancel = client.Cancel
client_command c.Begin = client.Begin
client_command (c.DataOf bytes) = client.DataOf bytes.items
client_command (c.Error text) = client.Error text.items
client_command c.Negotiate = client.Negotiate
client_command c.Other = client.Other

abbrev pub server_command : {A : Type 0} → ServerLine A → ServerCommand
server_command (s.Rejected mechanisms) = server.Rejected (map (λ m. m.items) mechanisms.items)
server_command (s.Accepted guid) = server.Accepted guid.0
server_command (s.DataOf bytes) = server.DataOf bytes.items
server_command (s.Error text) = server.Error text.items
server_command s.Agree = server.Agree
server_command s.Other = server.Other
