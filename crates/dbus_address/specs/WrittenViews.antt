-- What is to be written, and what appending leaves. D-Bus Specification, "Server Addresses".
use Rattle.std.specs.Prelude.{◌≡◌, ◌++◌, ℕ, List, [], ◌∷◌, map, Result, Ok, Err, Vec}
use Rattle.dbus_address.specs.declared.writing.PairParts.{PairParts}
use Rattle.dbus_address.specs.declared.writing.AddressParts.{AddressParts}
use Rattle.dbus_address.specs.declared.fault.AddressTextFault.{AddressTextFault}
use Rattle.dbus_address.specs.declared.fault.AddressTextFault.TheVariants.{Memory, NoName, Refused}
use Rattle.dbus_address.specs.Written.{written, AreAddresses}
use Rattle.dbus_address.specs.Faults.{IsFault, IsTaken}
use Rattle.dbus_address.specs.Addresses.{Address, Pair, SpelledAddress, address_then}

abbrev pub pair_parts : PairParts → Pair
pair_parts p = record { key = p.key.now; value = p.value.now }

abbrev pub address_parts : AddressParts → Address
address_parts a = record { transport = a.transport.now; pairs = map pair_parts a.pairs.now }

-- a text is appended, whatever follows it
abbrev pub Appends : List ℕ → List ℕ → (List ℕ → List ℕ) → Type 0
Appends old new f = (r : List ℕ) → new ++ r ≡ old ++ f r

abbrev pub more_addresses_then : List SpelledAddress → List ℕ → List ℕ
more_addresses_then [] r = r
more_addresses_then (a ∷ more) r = 59 ∷ address_then a (more_addresses_then more r)

-- the text that is written is taken as the addresses; or why it is not, of which want of memory
-- says nothing
abbrev pub IsWritten :
    {A : Type 0} → List Address → Result (Vec ℕ A) AddressTextFault → Type 0
IsWritten addresses (Ok text) = (text.items ≡ written addresses) × IsTaken text.items addresses
IsWritten addresses (Err Memory) = Unit {0}
IsWritten addresses (Err NoName) = AreAddresses addresses → ⊥
IsWritten addresses (Err (Refused e)) =
    AreAddresses addresses × IsFault (written addresses) e.reason e.at
