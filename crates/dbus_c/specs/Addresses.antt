-- What is told by numbers of a text of server addresses, and of one of its addresses a text that is
-- asked for. D-Bus Specification, "Server Addresses".
use Rattle.std.specs.Prelude.{◌≡◌, ℕ, ◌-◌, ◌==◌, List, [], ◌∷◌, length, min, codes, nat_eq}
use Rattle.std.specs.Prelude.{if◌then◌else◌, Option, Some, None}
use Rattle.dbus_address.specs.Addresses.{Address}
use Rattle.dbus_address.specs.FaultTexts.{address_reason_text}
use Rattle.dbus_address.specs.Faults.{IsFault, IsTaken}
use Rattle.dbus_address.specs.Flaws.{value_at}
use Rattle.dbus_address.specs.declared.fault.AddressReason.{AddressReason}
use Rattle.dbus_address.specs.declared.fault.AddressReason.TheVariants as reason
use Rattle.dbus_room.specs.Counting.{counted}
use Rattle.dbus_c.specs.Written.{IsWritten}
use Rattle.dbus_c.specs.declared.addresses.AddressesTold.{AddressesTold}
use Rattle.dbus_c.specs.declared.answers.TheConstants.{WHOLE, REFUSED, NO_VALUE}

-- The numbers and the names of the reasons why a text is refused, which are this project's own.

abbrev pub address_reason_number : AddressReason → ℕ
address_reason_number reason.TooLong = 1
address_reason_number reason.Transport = 2
address_reason_number reason.Key = 3
address_reason_number reason.Value = 4
address_reason_number reason.Escape = 5
address_reason_number reason.KeyTwice = 6
address_reason_number reason.Guid = 7

-- the name of the reason of this number, or nothing if there is none
abbrev pub address_name_at : ℕ → List ℕ
address_name_at n =
    if nat_eq n 1 then codes "TooLong" else if nat_eq n 2 then codes "Transport"
    else if nat_eq n 3 then codes "Key" else if nat_eq n 4 then codes "Value"
    else if nat_eq n 5 then codes "Escape" else if nat_eq n 6 then codes "KeyTwice"
    else if nat_eq n 7 then codes "Guid" else []

-- the text of a reason is the name at its number
abbrev pub AddressNamesAreTexts : Type 0
AddressNamesAreTexts =
    (r : AddressReason) → address_reason_text r ≡ address_name_at (address_reason_number r)

abbrev pub taken_told : ℕ → AddressesTold
taken_told n = record { count = counted n; offset = 0; reason = 0; reserved = 0 }

abbrev pub refused_told : ℕ → AddressReason → AddressesTold
refused_told at r =
    record { count = 0; offset = at; reason = address_reason_number r; reserved = 0 }

-- the text is taken as some addresses, and it is told how many; or it is refused, and it is told
-- where and why
pub data TellsAddresses (w : List ℕ) (answer : ℕ) (told : AddressesTold) : Type 0 where
  taken :
      (addresses : List Address) → IsTaken w addresses → answer ≡ WHOLE →
      told ≡ taken_told (length addresses) → TellsAddresses w answer told
  refused :
      (r : AddressReason) (at : ℕ) → IsFault w r at → answer ≡ REFUSED →
      told ≡ refused_told at r → TellsAddresses w answer told

-- the address of this number, from 0 on
abbrev pub address_at : ℕ → List Address → Option Address
address_at n [] = None
address_at n (a ∷ more) = if n == 0 then Some a else address_at (n - 1) more

-- of an address, if there is one: its transport, and the value of a key that it has
abbrev pub transport_in : Option Address → Option (List ℕ)
transport_in None = None
transport_in (Some a) = Some a.transport

abbrev pub value_in : List ℕ → Option Address → Option (List ℕ)
value_in key None = None
value_in key (Some a) = value_at key a.pairs

-- The text and a 0 after it are written, as much of this as there is room for, and it is told how
-- many bytes of the text are.
pub record WritesText (text old new : List ℕ) (answer count : ℕ) : Type 0 where
  pub written : IsWritten text old new answer
  pub count_is : count ≡ min (length text) (length old)

-- a text that is asked for of the addresses is written; or they do not have it, or the text of
-- addresses is refused, and nothing is written
pub data TellsAddressText
    (w : List ℕ) (asked : List Address → Option (List ℕ)) (answer : ℕ) (old new : List ℕ)
    (count_old count_new : ℕ) : Type 0 where
  found :
      (addresses : List Address) (text : List ℕ) → IsTaken w addresses →
      asked addresses ≡ Some text → WritesText text old new answer count_new →
      TellsAddressText w asked answer old new count_old count_new
  missing :
      (addresses : List Address) → IsTaken w addresses → asked addresses ≡ None →
      answer ≡ NO_VALUE → new ≡ old → count_new ≡ count_old →
      TellsAddressText w asked answer old new count_old count_new
  refused :
      (r : AddressReason) (at : ℕ) → IsFault w r at → answer ≡ REFUSED → new ≡ old →
      count_new ≡ count_old → TellsAddressText w asked answer old new count_old count_new
