-- The laws of addresses. D-Bus Specification, "Server Addresses".
use Rattle.std.specs.Prelude.{◌≡◌, ℕ, List}
use Rattle.dbus_address.specs.declared.fault.AddressReason.{AddressReason}
use Rattle.dbus_address.specs.Addresses.{Address, SpellsAddresses}
use Rattle.dbus_address.specs.Faults.{IsFault, IsTaken}

-- a text spells at most one list of addresses
abbrev pub OneReading : Type 0
OneReading =
    (w : List ℕ) (x y : List Address) → SpellsAddresses w x → SpellsAddresses w y → x ≡ y

-- a text is refused for at most one reason, at one place
abbrev pub OneFault : Type 0
OneFault =
    (w : List ℕ) (r s : AddressReason) (m n : ℕ) → IsFault w r m → IsFault w s n →
    (r ≡ s) × (m ≡ n)

-- no text is taken and refused
abbrev pub NotBoth : Type 0
NotBoth =
    (w : List ℕ) (x : List Address) (r : AddressReason) (m : ℕ) → IsTaken w x → IsFault w r m → ⊥
