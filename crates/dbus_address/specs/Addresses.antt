-- A list of server addresses, and the texts that spell it: 59 is the semicolon, 58 the colon, 44
-- the comma, 61 is `=` and 37 the percent sign. D-Bus Specification, "Server Addresses". By this
-- project's own choice a transport and a key have a byte at least, and only bytes that may stand
-- unescaped; and there is one address at least, and no empty one.
use Rattle.std.specs.Prelude.{◌≡◌, ℕ, ◌+◌, ◌*◌, List, [], ◌∷◌, ◌++◌, map, true}
use Rattle.std.specs.List.{AllByRecursion}
use Rattle.dbus_address.specs.Bytes.{is_plain, is_hex, digit}

-- a byte that stands for itself, or an escaped one, by its two digits
pub data Piece : Type 0 where
  plain : ℕ → Piece
  escaped : ℕ → ℕ → Piece

abbrev pub IsPiece : Piece → Type 0
IsPiece (plain b) = is_plain b ≡ true
IsPiece (escaped h l) = (is_hex h ≡ true) × (is_hex l ≡ true)

abbrev pub piece_byte : Piece → ℕ
piece_byte (plain b) = b
piece_byte (escaped h l) = digit h * 16 + digit l

-- the texts of pieces, and then a text
abbrev pub pieces_then : List Piece → List ℕ → List ℕ
pieces_then [] r = r
pieces_then (plain b ∷ ps) r = b ∷ pieces_then ps r
pieces_then (escaped h l ∷ ps) r = 37 ∷ h ∷ l ∷ pieces_then ps r

-- a key, and a value by its pieces
pub record SpelledPair : Type 0 where
  pub key : List ℕ
  pub pieces : List Piece

pub record SpelledAddress : Type 0 where
  pub transport : List ℕ
  pub pairs : List SpelledPair

-- a transport or a key: one byte at least, and no byte that must be escaped
abbrev pub IsName : List ℕ → Type 0
IsName [] = ⊥
IsName (b ∷ c) = AllByRecursion (λ b. is_plain b ≡ true) (b ∷ c)

abbrev pub IsSpelledPair : SpelledPair → Type 0
IsSpelledPair p = IsName p.key × AllByRecursion IsPiece p.pieces

abbrev pub IsSpelledAddress : SpelledAddress → Type 0
IsSpelledAddress a = IsName a.transport × AllByRecursion IsSpelledPair a.pairs

-- the text of a pair, and then a text
abbrev pub pair_then : SpelledPair → List ℕ → List ℕ
pair_then p r = p.key ++ 61 ∷ pieces_then p.pieces r

-- the same of further pairs, each after a comma
abbrev pub more_pairs_then : List SpelledPair → List ℕ → List ℕ
more_pairs_then [] r = r
more_pairs_then (p ∷ ps) r = 44 ∷ pair_then p (more_pairs_then ps r)

abbrev pub pairs_then : List SpelledPair → List ℕ → List ℕ
pairs_then [] r = r
pairs_then (p ∷ ps) r = pair_then p (more_pairs_then ps r)

abbrev pub address_then : SpelledAddress → List ℕ → List ℕ
address_then a r = a.transport ++ 58 ∷ pairs_then a.pairs r

-- further addresses, each after a semicolon
abbrev pub more_addresses : List SpelledAddress → List ℕ
more_addresses [] = []
more_addresses (a ∷ more) = 59 ∷ address_then a (more_addresses more)

-- what is meant: keys with their values unescaped
pub record Pair : Type 0 where
  pub key : List ℕ
  pub value : List ℕ

pub record Address : Type 0 where
  pub transport : List ℕ
  pub pairs : List Pair

abbrev pub pair_of : SpelledPair → Pair
pair_of p = record { key = p.key; value = map piece_byte p.pieces }

abbrev pub address_of : SpelledAddress → Address
address_of a = record { transport = a.transport; pairs = map pair_of a.pairs }

-- the text w spells the addresses
pub record SpellsAddresses (w : List ℕ) (addresses : List Address) : Type 0 where
  pub first : SpelledAddress
  pub more : List SpelledAddress
  pub first_is : IsSpelledAddress first
  pub more_are : AllByRecursion IsSpelledAddress more
  pub spelled : w ≡ address_then first (more_addresses more)
  pub meant : addresses ≡ map address_of (first ∷ more)
