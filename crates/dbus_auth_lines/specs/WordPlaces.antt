-- What a line says by the places of its words. D-Bus Specification, "Authentication Protocol",
-- "Protocol Overview" and the section of each command.
use Rattle.std.specs.Prelude.{ℕ, ◌+◌, ◌<◌, ◌≤◌, ◌≡◌, ◌≢◌, ◌⊎◌, min, Bool, true, false, List, [], ◌∷◌, length, take, drop, slice_index, Option, Some, None, Ok}
use Rattle.hex.specs.Hex.{decode_of}
use Rattle.dbus_auth_lines.specs.ClientCommands.{ClientCommand}
use Rattle.dbus_auth_lines.specs.ClientCommands as client
use Rattle.dbus_auth_lines.specs.ServerCommands.{ServerCommand}
use Rattle.dbus_auth_lines.specs.ServerCommands as server
use Rattle.dbus_auth_lines.specs.Lines.{words, by_hex}
use Rattle.dbus_auth_lines.specs.declared.words.WordPlace.{WordPlace}
use Rattle.dbus_auth_lines.specs.declared.places.ClientWords.{ClientWords}
use Rattle.dbus_auth_lines.specs.declared.places.ClientWords.TheVariants as c
use Rattle.dbus_auth_lines.specs.declared.places.ServerWords.{ServerWords}
use Rattle.dbus_auth_lines.specs.declared.places.ServerWords.TheVariants as s

abbrev pub text_at : List ℕ → WordPlace → List ℕ
text_at line p = take p.length (drop p.at line)

abbrev pub IsWithin : List ℕ → WordPlace → Type 0
IsWithin line p = p.at + p.length ≤ length line

-- the place is in the line, and its text is this
abbrev pub HasTextAt : List ℕ → WordPlace → List ℕ → Type 0
HasTextAt line p text = IsWithin line p × (text ≡ text_at line p)

-- and its text spells these bytes in hexadecimal; no text spells none
abbrev pub HasHexAt : List ℕ → WordPlace → List ℕ → Type 0
HasHexAt line p bytes = IsWithin line p × (decode_of (text_at line p) ≡ Ok bytes)

-- and its text has these words
abbrev pub HasWordsAt : List ℕ → WordPlace → List (List ℕ) → Type 0
HasWordsAt line p ws = IsWithin line p × (words (text_at line p) ≡ ws)

-- the texts at the places in a client's line are those of this command
abbrev pub SaysToServer : List ℕ → ClientWords → ClientCommand → Type 0
SaysToServer line c.Auth command = command ≡ client.Auth
SaysToServer line (c.AuthBy mech response) command =
    (m : List ℕ) × ((r : List ℕ) × (HasTextAt line mech m × HasHexAt line response r × (command ≡ client.AuthBy m r)))
SaysToServer line c.Cancel command = command ≡ client.Cancel
SaysToServer line c.Begin command = command ≡ client.Begin
SaysToServer line (c.DataOf digits) command = (bytes : List ℕ) × (HasHexAt line digits bytes × (command ≡ client.DataOf bytes))
SaysToServer line (c.Error text) command = (t : List ℕ) × (HasTextAt line text t × (command ≡ client.Error t))
SaysToServer line c.Negotiate command = command ≡ client.Negotiate
SaysToServer line c.Other command = command ≡ client.Other

-- and in a server's
abbrev pub SaysToClient : List ℕ → ServerWords → ServerCommand → Type 0
SaysToClient line (s.Rejected mechanisms) command = (ws : List (List ℕ)) × (HasWordsAt line mechanisms ws × (command ≡ server.Rejected ws))
SaysToClient line (s.Accepted digits) command = (guid : List ℕ) × (HasHexAt line digits guid × (command ≡ server.Accepted guid))
SaysToClient line (s.DataOf digits) command = (bytes : List ℕ) × (HasHexAt line digits bytes × (command ≡ server.DataOf bytes))
SaysToClient line (s.Error text) command = (t : List ℕ) × (HasTextAt line text t × (command ≡ server.Error t))
SaysToClient line s.Agree command = command ≡ server.Agree
SaysToClient line s.Other command = command ≡ server.Other

-- ---- which places these are, also if other words of the line have the same bytes

abbrev pub AreSpaces : List ℕ → (from to : ℕ) → Type 0
AreSpaces line from to = (k : ℕ) → from ≤ k → k < to → slice_index line k ≡ 32

-- where the next word is, from an offset on: after spaces alone, and up to a space or the line's
-- end
pub record IsNextWord (line : List ℕ) (from : ℕ) (p : WordPlace) : Type 0 where
  pub follows : from ≤ p.at
  pub within : IsWithin line p
  pub after_spaces : AreSpaces line from p.at
  pub some : 0 < p.length
  pub no_space : (k : ℕ) → p.at ≤ k → k < p.at + p.length → slice_index line k ≢ 32
  pub ends : p.at + p.length < length line → slice_index line (p.at + p.length) ≡ 32

-- if only spaces come from an offset on, it is there and has no bytes
pub record HasNoWord (line : List ℕ) (from : ℕ) (p : WordPlace) : Type 0 where
  pub here : p.at ≡ from
  pub none : p.length ≡ 0
  pub all_spaces : AreSpaces line from (length line)

abbrev pub IsWordOrNone : List ℕ → ℕ → WordPlace → Type 0
IsWordOrNone line from p = IsWithin line p × (IsNextWord line from p ⊎ HasNoWord line from p)

-- all from the next word on up to the line's end, the spaces after the last word too; if no word
-- comes, no bytes at the line's end
pub record AreNextWords (line : List ℕ) (from : ℕ) (p : WordPlace) : Type 0 where
  pub follows : from ≤ p.at
  pub to_end : p.at + p.length ≡ length line
  pub after_spaces : AreSpaces line from p.at
  pub begins : 0 < p.length → slice_index line p.at ≢ 32

-- what follows ERROR and one space, up to the line's end; nothing, at the line's end, if no space
-- follows
pub record IsErrorText (line : List ℕ) (p : WordPlace) : Type 0 where
  pub at : p.at ≡ min 6 (length line)
  pub to_end : p.at + p.length ≡ length line

-- of the words in a client's line, by the offset at which its command's name ends
abbrev pub AreClientPlaces : List ℕ → ℕ → ClientWords → Type 0
AreClientPlaces line name_end c.Auth = Unit {0}
AreClientPlaces line name_end (c.AuthBy mech response) = IsNextWord line name_end mech × IsWordOrNone line (mech.at + mech.length) response
AreClientPlaces line name_end c.Cancel = Unit {0}
AreClientPlaces line name_end c.Begin = Unit {0}
AreClientPlaces line name_end (c.DataOf digits) = IsWordOrNone line name_end digits
AreClientPlaces line name_end (c.Error text) = IsErrorText line text
AreClientPlaces line name_end c.Negotiate = Unit {0}
AreClientPlaces line name_end c.Other = Unit {0}

-- and in a server's
abbrev pub AreServerPlaces : List ℕ → ℕ → ServerWords → Type 0
AreServerPlaces line name_end (s.Rejected mechanisms) = AreNextWords line name_end mechanisms
AreServerPlaces line name_end (s.Accepted digits) = IsNextWord line name_end digits × (digits.length ≡ 32)
AreServerPlaces line name_end (s.DataOf digits) = IsWordOrNone line name_end digits
AreServerPlaces line name_end (s.Error text) = IsErrorText line text
AreServerPlaces line name_end s.Agree = Unit {0}
AreServerPlaces line name_end s.Other = Unit {0}

-- ---- before it is known whether the words are hexadecimal: if not, the line is Other

abbrev pub client_found : List ℕ → ClientWords → ClientCommand
client_found line c.Auth = client.Auth
client_found line (c.AuthBy mech response) = by_hex (client.AuthBy (text_at line mech)) client.Other (decode_of (text_at line response))
client_found line c.Cancel = client.Cancel
client_found line c.Begin = client.Begin
client_found line (c.DataOf digits) = by_hex client.DataOf client.Other (decode_of (text_at line digits))
client_found line (c.Error text) = client.Error (text_at line text)
client_found line c.Negotiate = client.Negotiate
client_found line c.Other = client.Other

abbrev pub server_found : List ℕ → ServerWords → ServerCommand
server_found line (s.Rejected mechanisms) = server.Rejected (words (text_at line mechanisms))
server_found line (s.Accepted digits) = by_hex server.Accepted server.Other (decode_of (text_at line digits))
server_found line (s.DataOf digits) = by_hex server.DataOf server.Other (decode_of (text_at line digits))
server_found line (s.Error text) = server.Error (text_at line text)
server_found line s.Agree = server.Agree
server_found line s.Other = server.Other

-- the only word of a text, or none at all; of more words nothing
abbrev pub one_word : List (List ℕ) → Option (List ℕ)
one_word [] = Some []
one_word (word ∷ []) = Some word
one_word (word ∷ more ∷ rest) = None

-- whether a text spells bytes in hexadecimal
abbrev pub is_hex : List ℕ → Bool
is_hex text = by_hex (λ bytes. true) false (decode_of text)
