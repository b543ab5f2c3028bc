-- The faults that a reader of messages answers for good.
use Rattle.std.specs.Prelude.{Bool, true, false, not, Option, Some}
use Rattle.dbus_value_model.specs.declared.fault.Reason.{Reason}
use Rattle.dbus_value_model.specs.declared.fault.Reason.TheVariants.{Truncated}
use Rattle.dbus_stream.specs.declared.read_fault.ReadFault.{ReadFault}
use Rattle.dbus_stream.specs.declared.read_fault.ReadFault.TheVariants.{Memory, Format, Device}

-- where it answers one for good, it is one of these
abbrev pub is_lasting : Option ReadFault → Bool
is_lasting (Some Memory) = false
is_lasting (Some Device) = false
is_lasting _ = true

-- the input ended within a message
abbrev pub is_truncated : Reason → Bool
is_truncated Truncated = true
is_truncated _ = false

-- bytes were met that are no message
abbrev pub is_refusal : Option ReadFault → Bool
is_refusal (Some (Format fault)) = not (is_truncated fault.reason)
is_refusal _ = false
