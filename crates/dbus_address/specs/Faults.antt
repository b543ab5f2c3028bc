-- Which texts of addresses are taken, and why and where others are refused. D-Bus Specification,
-- "Server Addresses"; the greatest length, the reasons and the places are this project's own.
use Rattle.std.specs.Prelude.{◌≡◌, ℕ, ◌+◌, ◌<◌, ◌≤◌, List, [], ◌∷◌, ◌++◌, length, take, Some, None}
use Rattle.std.specs.List.{AllByRecursion}
use Rattle.dbus_address.specs.declared.fault.AddressReason.{AddressReason}
use Rattle.dbus_address.specs.declared.fault.AddressReason.TheVariants.{TooLong, Transport, Key, Value, Escape, KeyTwice, Guid}
use Rattle.dbus_address.specs.Addresses.{Address, address_of, SpellsAddresses, SpelledAddress, IsSpelledAddress, address_then, more_addresses}
use Rattle.dbus_address.specs.Flaws.{flaw}

-- the greatest length of a text, in bytes
abbrev pub ADDRESS_LIMIT : ℕ
ADDRESS_LIMIT = 4096

-- the text spells some addresses
abbrev pub IsSpelled : List ℕ → Type 0
IsSpelled w = (addresses : List Address) × SpellsAddresses w addresses

-- the text begins one that spells some addresses
abbrev pub IsBeginning : List ℕ → Type 0
IsBeginning w = (c : List ℕ) × IsSpelled (w ++ c)

-- the text spells none, and the place is where its longest beginning of addresses ends
pub record BreaksAt (w : List ℕ) (at : ℕ) : Type 0 where
  pub none : IsSpelled w → ⊥
  pub within : at ≤ length w
  pub begins : IsBeginning (take at w)
  pub stops : at < length w → IsBeginning (take (at + 1) w) → ⊥

-- what would end a text with P that begins as `u`: a transport's byte and a colon, a key's byte and
-- `=`, or a byte of a value; or such a byte cannot come, which is 45, `-`, and no digit
abbrev pub Wants : (List ℕ → Type 0) → AddressReason → List ℕ → Type 0
Wants P Transport u = P (u ++ 45 ∷ 58 ∷ [])
Wants P Key u = P (u ++ 45 ∷ 61 ∷ [])
Wants P Value u = P (u ++ 45 ∷ [])
Wants P Escape u = (c : List ℕ) → P (u ++ 45 ∷ c) → ⊥
Wants P TooLong u = ⊥
Wants P KeyTwice u = ⊥
Wants P Guid u = ⊥

-- addresses, each with a semicolon after it, and then a text
abbrev pub each_then : List SpelledAddress → List ℕ → List ℕ
each_then [] r = r
each_then (a ∷ more) r = address_then a (59 ∷ each_then more r)

-- how many bytes they have
abbrev pub each_length : List SpelledAddress → ℕ
each_length [] = 0
each_length (a ∷ more) = (length (address_then a []) + 1) + each_length more

abbrev pub IsSound : SpelledAddress → Type 0
IsSound a = flaw (address_of a) ≡ None

-- the text spells addresses, of which the one that begins at the place is the first with a flaw
pub record HasFlawAt (w : List ℕ) (reason : AddressReason) (at : ℕ) : Type 0 where
  pub before : List SpelledAddress
  pub bad : SpelledAddress
  pub after : List SpelledAddress
  pub before_are : AllByRecursion IsSpelledAddress before
  pub bad_is : IsSpelledAddress bad
  pub after_are : AllByRecursion IsSpelledAddress after
  pub spelled : w ≡ each_then before (address_then bad (more_addresses after))
  pub place : at ≡ each_length before
  pub sound : AllByRecursion IsSound before
  pub flawed : flaw (address_of bad) ≡ Some reason

-- the text is refused for the reason at the place
pub data IsFault (w : List ℕ) (reason : AddressReason) (at : ℕ) : Type 0 where
  is_long :
      ADDRESS_LIMIT < length w → reason ≡ TooLong → at ≡ ADDRESS_LIMIT →
      IsFault w reason at
  breaks :
      length w ≤ ADDRESS_LIMIT → BreaksAt w at → Wants IsSpelled reason (take at w) →
      IsFault w reason at
  has_flaw : length w ≤ ADDRESS_LIMIT → HasFlawAt w reason at → IsFault w reason at

-- the text is taken as these addresses
pub record IsTaken (w : List ℕ) (addresses : List Address) : Type 0 where
  pub short : length w ≤ ADDRESS_LIMIT
  pub spelled : SpellsAddresses w addresses
  pub sound : AllByRecursion (λ a. flaw a ≡ None) addresses
