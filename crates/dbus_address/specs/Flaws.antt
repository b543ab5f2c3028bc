-- What is refused in addresses that are spelled: a key twice, and a GUID that is none. D-Bus
-- Specification, "Server Addresses" and "UUIDs"; it says nothing of a key that comes twice.
use Rattle.std.specs.Prelude.{ℕ, ◌+◌, List, [], ◌∷◌, Bool, false, not, ◌&&◌, ◌||◌, ◌==◌, if◌then◌else◌, bytes_eq, length, Option, Some, None, is_some}
use Rattle.std.specs.List.{list_all}
use Rattle.dbus_address.specs.declared.fault.AddressReason.{AddressReason}
use Rattle.dbus_address.specs.declared.fault.AddressReason.TheVariants.{KeyTwice, Guid}
use Rattle.dbus_address.specs.Bytes.{is_hex}
use Rattle.dbus_address.specs.Addresses.{Address, Pair}

-- the value of the first pair with the key
abbrev pub value_at : List ℕ → List Pair → Option (List ℕ)
value_at key [] = None
value_at key (p ∷ ps) = if bytes_eq p.key key then Some p.value else value_at key ps

-- whether a key is also in a later pair
abbrev pub has_key_twice : List Pair → Bool
has_key_twice [] = false
has_key_twice (p ∷ ps) = is_some (value_at p.key ps) || has_key_twice ps

-- 32 hexadecimal digits, of which some are counted already
abbrev pub is_guid_after : ℕ → List ℕ → Bool
is_guid_after n v = (n + length v == 32) && list_all is_hex v

abbrev pub is_guid : List ℕ → Bool
is_guid v = is_guid_after 0 v

abbrev pub is_no_guid : Option (List ℕ) → Bool
is_no_guid None = false
is_no_guid (Some v) = not (is_guid v)

-- the key `guid`
abbrev pub guid_key : List ℕ
guid_key = 103 ∷ 117 ∷ 105 ∷ 100 ∷ []

-- the reason to refuse the address, if there is one
abbrev pub flaw : Address → Option AddressReason
flaw a =
    if has_key_twice a.pairs then Some KeyTwice
    else (if is_no_guid (value_at guid_key a.pairs) then Some Guid else None)
