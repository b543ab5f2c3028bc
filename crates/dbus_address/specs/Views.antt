-- What the values of the code say. D-Bus Specification, "Server Addresses".
use Rattle.std.specs.Prelude.{◌≡◌, ℕ, List, Option, Some, None, option_map, Result, Ok, Err}
use Rattle.dbus_address.specs.declared.fault.AddressFault.{AddressFault}
use Rattle.dbus_address.specs.declared.reading.Addresses.{Addresses}
use Rattle.dbus_address.specs.declared.reading.AddressView.{AddressView}
use Rattle.dbus_address.specs.declared.reading.Pairs.{Pairs}
use Rattle.dbus_address.specs.declared.reading.PairView.{PairView}
use Rattle.dbus_address.specs.declared.reading.ValueBytes.{ValueBytes}
use Rattle.dbus_address.specs.Addresses.{Address, Pair}
use Rattle.dbus_address.specs.Parts.{unescaped, pairs_left, addresses_left, addresses_in}
use Rattle.dbus_address.specs.Flaws.{value_at}
use Rattle.dbus_address.specs.Faults.{IsFault, IsTaken}

-- the bytes of a value that are left
abbrev pub bytes_of : ValueBytes → List ℕ
bytes_of v = unescaped v.text.now

abbrev pub pair_view : PairView → Pair
pair_view p = record { key = p.key.now; value = bytes_of p.value }

-- the pairs that are left
abbrev pub pairs_of : Pairs → List Pair
pairs_of p = pairs_left (option_map (λ t. t.now) p.rest)

abbrev pub address_view : AddressView → Address
address_view a = record { transport = a.transport.now; pairs = pairs_of a.pairs }

-- the addresses that are left
abbrev pub addresses_of : Addresses → List Address
addresses_of a = addresses_left (option_map (λ t. t.now) a.rest)

-- the value of the first pair of the address with the key; none if there is no such pair
abbrev pub IsValueOf : List ℕ → AddressView → Option ValueBytes → Type 0
IsValueOf key a found = option_map bytes_of found ≡ value_at key (address_view a).pairs

-- what is said of a text: it is taken as its parts, or refused
abbrev pub IsAnswer : List ℕ → Option AddressFault → Type 0
IsAnswer w None = IsTaken w (addresses_in w)
IsAnswer w (Some e) = IsFault w e.reason e.at

-- the addresses that the text is taken as, or the fault for which it is refused
abbrev pub IsParsed : List ℕ → Result Addresses AddressFault → Type 0
IsParsed w (Ok a) = IsTaken w (addresses_of a)
IsParsed w (Err e) = IsFault w e.reason e.at
