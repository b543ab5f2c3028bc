-- Of which packet the byte is by which a message of an input is refused. packets says of which
-- packet each byte of the input is, if that is known.
use Rattle.std.specs.Prelude.{◌≡◌, ℕ, ◌+◌, ◌-◌, List, length, Option, None, Some}
use Rattle.dbus_device.specs.Packets.{Packets}
use Rattle.dbus_device.specs.declared.packet.Packet.{Packet}
use Rattle.dbus_value_model.specs.declared.fault.Fault.{Fault}
use Rattle.dbus_value_model.specs.declared.limits.Limits.{Limits}
use Rattle.cli_report.specs.FaultFronts.{IsFaultFront}

-- the number of a packet, if there is one
abbrev pub number_of : Option Packet → Option ℕ
number_of None = None
number_of (Some packet) = Some packet.number

-- a message at this offset is refused by a byte of the packet of this number, or of none: by the last
-- of those bytes that show its fault, which are among these
abbrev pub IsRefusedIn : Option Packets → Limits → (offset : ℕ) → (bytes : List ℕ) → Option ℕ → Type 0
IsRefusedIn None limits offset bytes number = Unit {0}
IsRefusedIn (Some packets) limits offset bytes number = (front : List ℕ) → IsFaultFront limits bytes front → number ≡ number_of (packets (offset + length front - 1))

-- the same, if the input has a fault there
abbrev pub IsFaultIn : Option Packets → Limits → (offset : ℕ) → (bytes : List ℕ) → Option Fault → Option ℕ → Type 0
IsFaultIn packets limits offset bytes None number = Unit {0}
IsFaultIn packets limits offset bytes (Some fault) number = IsRefusedIn packets limits offset bytes number
