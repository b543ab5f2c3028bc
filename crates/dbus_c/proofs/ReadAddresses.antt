-- What the answer of the reading says of a text of server addresses.
use Rattle.std.proofs.Common.{◌≡◌, ℕ, List, Result, Ok, Err, subst}
use Rattle.dbus_address.specs.Faults.{IsFault, IsTaken}
use Rattle.dbus_address.specs.Views.{IsParsed, addresses_of}
use Rattle.dbus_address.specs.declared.fault.AddressFault.{AddressFault}
use Rattle.dbus_address.specs.declared.reading.Addresses.{Addresses}
use Rattle.dbus_c.specs.declared.addresses.AddressesTold.{AddressesTold}

pub is_taken : (w : List ℕ) (parsed : Result Addresses AddressFault) (a : Addresses) → IsParsed w parsed → parsed ≡ Ok a → IsTaken w (addresses_of a)
is_taken w parsed a p is = subst (λ r. IsParsed w r) is p

pub is_refused : (w : List ℕ) (parsed : Result Addresses AddressFault) (e : AddressFault) → IsParsed w parsed → parsed ≡ Err e → IsFault w e.reason e.at
is_refused w parsed e p is = subst (λ r. IsParsed w r) is p

abbrev pub told_of : ℕ → ℕ → ℕ → AddressesTold
told_of count at reason = record { count = count; offset = at; reason = reason; reserved = 0 }
