-- A text of addresses, read byte by byte, and its first flaw. D-Bus Specification, "Server
-- Addresses".
use Rattle.std.specs.Prelude.{◌+◌, ℕ, List, [], ◌∷◌, Bool, true, false, ◌==◌, if◌then◌else◌, length, Option, Some, None}
use Rattle.dbus_address.specs.declared.scan.AddressState.{AddressState}
use Rattle.dbus_address.specs.declared.scan.AddressState.TheVariants.{Start, Transport, Pairs, KeyStart, Key, Value, High, Low}
use Rattle.dbus_address.specs.declared.fault.AddressFault.{AddressFault}
use Rattle.dbus_address.specs.declared.fault.AddressReason.{AddressReason}
use Rattle.dbus_address.specs.declared.fault.AddressReason.TheVariants as reason
use Rattle.dbus_address.specs.Bytes.{is_plain, is_hex}
use Rattle.dbus_address.specs.Parts.{address_in}
use Rattle.dbus_address.specs.Flaws.{flaw}

-- the state after a byte, if the byte may stand there
abbrev pub next_state : AddressState → ℕ → Option AddressState
next_state Start b = if is_plain b then Some Transport else None
next_state Transport b =
    if b == 58 then Some Pairs else (if is_plain b then Some Transport else None)
next_state Pairs b = if b == 59 then Some Start else (if is_plain b then Some Key else None)
next_state KeyStart b = if is_plain b then Some Key else None
next_state Key b = if b == 61 then Some Value else (if is_plain b then Some Key else None)
next_state Value b =
    if b == 37 then Some High
    else (if b == 44 then Some KeyStart
    else (if b == 59 then Some Start
    else (if is_plain b then Some Value else None)))
next_state High b = if is_hex b then Some Low else None
next_state Low b = if is_hex b then Some Value else None

-- whether a text may end
abbrev pub is_end : AddressState → Bool
is_end Start = false
is_end Transport = false
is_end Pairs = true
is_end KeyStart = false
is_end Key = false
is_end Value = true
is_end High = false
is_end Low = false

-- what was to come
abbrev pub reason_in : AddressState → AddressReason
reason_in Start = reason.Transport
reason_in Transport = reason.Transport
reason_in Pairs = reason.Key
reason_in KeyStart = reason.Key
reason_in Key = reason.Key
reason_in Value = reason.Value
reason_in High = reason.Escape
reason_in Low = reason.Escape

abbrev pub on_state : {X : Type 0} → Option AddressState → X → (AddressState → X) → X
on_state None x f = x
on_state (Some s) x f = f s

abbrev pub fault_in : AddressState → ℕ → Option AddressFault
fault_in s n = Some (record { at = n; reason = reason_in s })

-- the fault of a text that goes on in this state at place n
abbrev pub scan : AddressState → ℕ → List ℕ → Option AddressFault
scan s n [] = if is_end s then None else fault_in s n
scan s n (b ∷ c) = on_state (next_state s b) (fault_in s n) (λ t. scan t (n + 1) c)

-- ---- a text that spells addresses, read part by part

abbrev pub flaw_or : Option AddressReason → ℕ → Option AddressFault → Option AddressFault
flaw_or None n next = next
flaw_or (Some reason) n next = Some (record { at = n; reason = reason })

-- the first flaw of addresses, by their texts, of which the first begins at place n and each other
-- one byte after the one before it
abbrev pub first_flaw : ℕ → List (List ℕ) → Option AddressFault
first_flaw n [] = None
first_flaw n (w ∷ more) = flaw_or (flaw (address_in w)) n (first_flaw ((n + length w) + 1) more)
