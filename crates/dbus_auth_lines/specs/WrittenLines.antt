-- Which commands are spelled by a line, and the line. D-Bus Specification, "Authentication
-- Protocol", "Protocol Overview".
use Rattle.std.specs.Prelude.{ℕ, ◌≡◌, ◌==◌, ◌&&◌, bytes_eq, not, nat_le, nat_lt, Bool, true, false, List, length, Option, Some, None, Result, Ok, Err, if◌then◌else◌}
use Rattle.std.specs.List.{list_all}
use Rattle.hex.specs.Hex.{IsBytes}
use Rattle.dbus_auth_lines.specs.ClientCommands.{ClientCommand}
use Rattle.dbus_auth_lines.specs.ClientCommands as client
use Rattle.dbus_auth_lines.specs.ServerCommands.{ServerCommand}
use Rattle.dbus_auth_lines.specs.ServerCommands as server
use Rattle.dbus_auth_lines.specs.Lines.{client_line, server_line, client_meaning, server_meaning, ended}
use Rattle.dbus_auth_lines.specs.declared.writing.TextFault.{TextFault}
use Rattle.dbus_auth_lines.specs.declared.writing.TextFault.TheVariants as fault
use Rattle.dbus_auth_lines.specs.Cut.{IsLine}

-- a byte of a mechanism
abbrev pub is_printed : ℕ → Bool
is_printed b = nat_le 33 b && nat_le b 126

-- a byte of an ERROR text
abbrev pub is_plain : ℕ → Bool
is_plain b = nat_lt 0 b && nat_lt b 128 && not (b == 13) && not (b == 10)

abbrev pub is_word : List ℕ → Bool
is_word bytes = not (length bytes == 0) && list_all is_printed bytes

abbrev pub is_client_spelled : ClientCommand → Bool
is_client_spelled client.Auth = true
is_client_spelled (client.AuthBy mech response) = is_word mech
is_client_spelled client.Cancel = true
is_client_spelled client.Begin = true
is_client_spelled (client.DataOf bytes) = true
is_client_spelled (client.Error text) = list_all is_plain text
is_client_spelled client.Negotiate = true
is_client_spelled client.Other = false

abbrev pub is_server_spelled : ServerCommand → Bool
is_server_spelled (server.Rejected mechanisms) = list_all is_word mechanisms
is_server_spelled (server.Accepted guid) = true
is_server_spelled (server.DataOf bytes) = true
is_server_spelled (server.Error text) = list_all is_plain text
is_server_spelled server.Agree = true
is_server_spelled server.Other = false

abbrev pub within_limit : List ℕ → Option (List ℕ)
within_limit text = if nat_le (length text) 16384 then Some text else None

-- the line with its CR LF, or None where none spells this
abbrev pub client_text_of : ClientCommand → Option (List ℕ)
client_text_of command = if is_client_spelled command then within_limit (ended (client_line command)) else None

abbrev pub server_text_of : ServerCommand → Option (List ℕ)
server_text_of command = if is_server_spelled command then within_limit (ended (server_line command)) else None

-- A line, here without its CR LF, is exact if what it says is written as this line. So there is one
-- exact line for what a side says, and none for Other.
abbrev pub IsExactClientLine : List ℕ → Type 0
IsExactClientLine line = client_text_of (client_meaning line) ≡ Some (ended line)

abbrev pub IsExactServerLine : List ℕ → Type 0
IsExactServerLine line = server_text_of (server_meaning line) ≡ Some (ended line)

-- whether a command is spelled, and by this line
abbrev pub is_client_text : List ℕ → ClientCommand → Bool
is_client_text line command = is_client_spelled command && bytes_eq line (client_line command)

abbrev pub is_server_text : List ℕ → ServerCommand → Bool
is_server_text line command = is_server_spelled command && bytes_eq line (server_line command)

-- what a call answers, unless memory ran out
abbrev pub Writes : {X : Type 0} → (X → List ℕ) → Result X TextFault → Option (List ℕ) → Type 0
Writes view (Ok text) t = t ≡ Some (view text)
Writes view (Err fault.Memory) t = Unit {0}
Writes view (Err fault.Unspellable) t = t ≡ None

-- A written line is one line, which is read back as what was written.

-- what is written in hexadecimal are bytes, as in each `ClientLine` and `ServerLine`
abbrev pub HasClientBytes : ClientCommand → Type 0
HasClientBytes client.Auth = Unit {0}
HasClientBytes (client.AuthBy mech response) = IsBytes response
HasClientBytes client.Cancel = Unit {0}
HasClientBytes client.Begin = Unit {0}
HasClientBytes (client.DataOf bytes) = IsBytes bytes
HasClientBytes (client.Error text) = Unit {0}
HasClientBytes client.Negotiate = Unit {0}
HasClientBytes client.Other = Unit {0}

abbrev pub HasServerBytes : ServerCommand → Type 0
HasServerBytes (server.Rejected mechanisms) = Unit {0}
HasServerBytes (server.Accepted guid) = (length guid ≡ 16) × IsBytes guid
HasServerBytes (server.DataOf bytes) = IsBytes bytes
HasServerBytes (server.Error text) = Unit {0}
HasServerBytes server.Agree = Unit {0}
HasServerBytes server.Other = Unit {0}

pub record ReadsBack {C : Type 0} (meaning : List ℕ → C) (command : C) (text : List ℕ) : Type 0 where
  pub line : List ℕ
  pub is_line : IsLine line
  pub is : text ≡ ended line
  pub reads : meaning line ≡ command
