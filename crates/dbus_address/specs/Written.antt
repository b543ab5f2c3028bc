-- The text that is written of addresses: each byte of a value that need not be escaped stands for
-- itself, and the others are escaped in lower case. D-Bus Specification, "Server Addresses"; of the
-- texts that spell the same this one is the project's own choice.
use Rattle.std.specs.Prelude.{ℕ, ◌<◌, ◌/◌, ◌%◌, List, [], ◌∷◌, if◌then◌else◌, map}
use Rattle.std.specs.List.{AllByRecursion}
use Rattle.dbus_address.specs.Bytes.{is_plain, digit_of}
use Rattle.dbus_address.specs.Addresses.{Piece, plain, escaped, SpelledPair, SpelledAddress, IsName, Pair, Address, address_then, more_addresses}

abbrev pub piece_of : ℕ → Piece
piece_of b = if is_plain b then plain b else escaped (digit_of (b / 16)) (digit_of (b % 16))

abbrev pub written_pair : Pair → SpelledPair
written_pair p = record { key = p.key; pieces = map piece_of p.value }

abbrev pub written_address : Address → SpelledAddress
written_address a = record { transport = a.transport; pairs = map written_pair a.pairs }

abbrev pub written : List Address → List ℕ
written [] = []
written (a ∷ more) = address_then (written_address a) (more_addresses (map written_address more))

-- what can be spelled: each transport and key is a name, and there is one address at least
abbrev pub IsPair : Pair → Type 0
IsPair p = IsName p.key × AllByRecursion (λ b. b < 256) p.value

abbrev pub IsAddress : Address → Type 0
IsAddress a = IsName a.transport × AllByRecursion IsPair a.pairs

abbrev pub AreAddresses : List Address → Type 0
AreAddresses [] = ⊥
AreAddresses (a ∷ more) = IsAddress a × AllByRecursion IsAddress more
