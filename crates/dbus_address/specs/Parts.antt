-- The addresses of a text by its parts: between semicolons, between commas, before and after a
-- colon and `=`. On a text that spells no addresses this says something too, and means nothing.
-- D-Bus Specification, "Server Addresses".
use Rattle.std.specs.Prelude.{ℕ, ◌+◌, ◌*◌, List, [], ◌∷◌, ◌==◌, if◌then◌else◌, map, Option, Some, None}
use Rattle.dbus_address.specs.Bytes.{digit, is_hex}
use Rattle.dbus_address.specs.Addresses.{Address, Pair}

-- what comes before the first d, or all
abbrev pub before : ℕ → List ℕ → List ℕ
before d [] = []
before d (b ∷ c) = if b == d then [] else b ∷ before d c

-- what comes after the first d
abbrev pub after : ℕ → List ℕ → Option (List ℕ)
after d [] = None
after d (b ∷ c) = if b == d then Some c else after d c

abbrev pub onto_first : ℕ → List (List ℕ) → List (List ℕ)
onto_first b [] = []
onto_first b (p ∷ ps) = (b ∷ p) ∷ ps

-- the parts between each two d
abbrev pub parts : ℕ → List ℕ → List (List ℕ)
parts d [] = [] ∷ []
parts d (b ∷ c) = if b == d then [] ∷ parts d c else onto_first b (parts d c)

abbrev pub parts_left : ℕ → Option (List ℕ) → List (List ℕ)
parts_left d None = []
parts_left d (Some w) = parts d w

-- of a text that may be missing, and of an empty one, no part
abbrev pub some_text : Option (List ℕ) → Option (List ℕ)
some_text None = None
some_text (Some []) = None
some_text (Some (b ∷ c)) = Some (b ∷ c)

abbrev pub or_empty : Option (List ℕ) → List ℕ
or_empty None = []
or_empty (Some w) = w

-- the digit's number; no digit is 0
abbrev pub number : ℕ → ℕ
number b = if is_hex b then digit b else 0

-- a value unescaped; what ends too early gives nothing more
pub data Mode : Type 0 where
  outside : Mode
  percent : Mode
  high : ℕ → Mode

abbrev pub unescaped_in : Mode → List ℕ → List ℕ
unescaped_in outside [] = []
unescaped_in outside (b ∷ c) =
    if b == 37 then unescaped_in percent c else b ∷ unescaped_in outside c
unescaped_in percent [] = []
unescaped_in percent (b ∷ c) = unescaped_in (high b) c
unescaped_in (high h) [] = []
unescaped_in (high h) (b ∷ c) = (number h * 16 + number b) ∷ unescaped_in outside c

abbrev pub unescaped : List ℕ → List ℕ
unescaped w = unescaped_in outside w

abbrev pub pair_in : List ℕ → Pair
pair_in w = record { key = before 61 w; value = unescaped (or_empty (after 61 w)) }

abbrev pub pairs_left : Option (List ℕ) → List Pair
pairs_left w = map pair_in (parts_left 44 w)

abbrev pub address_in : List ℕ → Address
address_in w = record { transport = before 58 w; pairs = pairs_left (some_text (after 58 w)) }

abbrev pub addresses_left : Option (List ℕ) → List Address
addresses_left w = map address_in (parts_left 59 w)

abbrev pub addresses_in : List ℕ → List Address
addresses_in w = map address_in (parts 59 w)
