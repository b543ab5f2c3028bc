-- A line as its table has it: a name, and words after it. It says of whole lines what Lines.antt
-- computes. D-Bus Specification, "Authentication Protocol", "Protocol Overview" and the section of
-- each command.
use Rattle.std.specs.Prelude.{ℕ, zero, suc, ◌≡◌, ◌≢◌, ◌⊎◌, List, [], ◌∷◌, ◌++◌, length, codes, Ok}
use Rattle.std.specs.List.{AllByRecursion}
use Rattle.hex.specs.Hex.{decode_of}
use Rattle.dbus_auth_lines.specs.ClientCommands.{ClientCommand}
use Rattle.dbus_auth_lines.specs.ClientCommands as client
use Rattle.dbus_auth_lines.specs.ServerCommands.{ServerCommand}
use Rattle.dbus_auth_lines.specs.ServerCommands as server

abbrev pub IsNoSpace : ℕ → Type 0
IsNoSpace b = b ≢ 32

-- bytes that are no spaces, and one at least
pub record IsWord (word : List ℕ) : Type 0 where
  pub some : word ≢ []
  pub no_space : AllByRecursion IsNoSpace word

abbrev pub spaces : ℕ → List ℕ
spaces zero = []
spaces (suc n) = 32 ∷ spaces n

-- the text is these words, each after one or more spaces, and any spaces after them
abbrev pub HasWords : List ℕ → List (List ℕ) → Type 0
HasWords text [] = (n : ℕ) × (text ≡ spaces n)
HasWords text (word ∷ words) = (n : ℕ) × ((rest : List ℕ) × ((text ≡ 32 ∷ spaces n ++ (word ++ rest)) × (IsWord word × HasWords rest words)))

-- the line is this name and these words
abbrev pub HasForm : List ℕ → List ℕ → List (List ℕ) → Type 0
HasForm line name words = (text : List ℕ) × ((line ≡ name ++ text) × HasWords text words)

-- the line is the name and the hexadecimal word of these bytes, which is absent where there are
-- none
abbrev pub HasHex : List ℕ → List ℕ → List (List ℕ) → List ℕ → Type 0
HasHex line name words bytes = ((bytes ≡ []) × HasForm line name words) ⊎ ((digits : List ℕ) × ((decode_of digits ≡ Ok bytes) × HasForm line name (words ++ digits ∷ [])))

-- after ERROR all bytes after one space are its text, whatever they are
abbrev pub HasText : List ℕ → List ℕ → Type 0
HasText line text = ((line ≡ codes "ERROR") × (text ≡ [])) ⊎ (line ≡ codes "ERROR" ++ 32 ∷ text)

-- the rows of the table of a client's lines
abbrev pub IsClientLine : List ℕ → ClientCommand → Type 0
IsClientLine line client.Auth = HasForm line (codes "AUTH") []
IsClientLine line (client.AuthBy mech response) = HasHex line (codes "AUTH") (mech ∷ []) response
IsClientLine line client.Cancel = HasForm line (codes "CANCEL") []
IsClientLine line client.Begin = HasForm line (codes "BEGIN") []
IsClientLine line (client.DataOf bytes) = HasHex line (codes "DATA") [] bytes
IsClientLine line (client.Error text) = HasText line text
IsClientLine line client.Negotiate = HasForm line (codes "NEGOTIATE_UNIX_FD") []
IsClientLine line client.Other = ⊥

-- and of a server's
abbrev pub IsServerLine : List ℕ → ServerCommand → Type 0
IsServerLine line (server.Rejected mechanisms) = HasForm line (codes "REJECTED") mechanisms
IsServerLine line (server.Accepted guid) = (digits : List ℕ) × ((length digits ≡ 32) × ((decode_of digits ≡ Ok guid) × HasForm line (codes "OK") (digits ∷ [])))
IsServerLine line (server.DataOf bytes) = HasHex line (codes "DATA") [] bytes
IsServerLine line (server.Error text) = HasText line text
IsServerLine line server.Agree = HasForm line (codes "AGREE_UNIX_FD") []
IsServerLine line server.Other = ⊥

-- a line means what its row says, and Other where no row has it
abbrev pub MeansToServer : List ℕ → ClientCommand → Type 0
MeansToServer line command = IsClientLine line command ⊎ ((command ≡ client.Other) × ((other : ClientCommand) → IsClientLine line other → ⊥))

abbrev pub MeansToClient : List ℕ → ServerCommand → Type 0
MeansToClient line command = IsServerLine line command ⊎ ((command ≡ server.Other) × ((other : ServerCommand) → IsServerLine line other → ⊥))
