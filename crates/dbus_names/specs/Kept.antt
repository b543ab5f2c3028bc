-- What a table of names keeps. D-Bus Specification, "Message Bus Names".
use Rattle.std.specs.Prelude.{ℕ, List, Option, option_map, string_bytes}
use Rattle.std.specs.BTreeMap.{get_by_text}
use Rattle.dbus_rule_set.specs.Owners.{OwnerSet}
use Rattle.dbus_calls.specs.Kept.{waiting}
use Rattle.dbus_calls.specs.Waiting.{Waiting}
use Rattle.dbus_calls.specs.declared.open_calls.OpenCalls.{OpenCalls}
use Rattle.dbus_names.specs.NameCalls.{NameCall}
use Rattle.dbus_names.specs.NameStates.{KnownNames, NameState, if_had}
use Rattle.dbus_names.specs.declared.name_call.NameCall.{NameCall as CallSeen}
use Rattle.dbus_names.specs.declared.first_names.FirstNames.{FirstNames}
use Rattle.dbus_names.specs.declared.kept_call.KeptCall.{KeptCall}
use Rattle.dbus_names.specs.declared.names.Names.{Names}

abbrev pub call_seen : CallSeen → NameCall
call_seen call = record { name = call.name.now; holder = call.holder }

abbrev pub call_kept : KeptCall → NameCall
call_kept call = record { name = string_bytes call.name; holder = call.holder }

-- the open calls that it keeps
abbrev pub calls_in : OpenCalls KeptCall → Waiting NameCall
calls_in calls caller serial = option_map call_kept (waiting calls caller serial)

abbrev pub calls_of : Names → Waiting NameCall
calls_of names = calls_in names.calls

-- the name that a connection was said to have, when it was known by none
abbrev pub first_of : FirstNames → (unique : List ℕ) → Option (List ℕ)
first_of kept unique = option_map string_bytes (get_by_text kept.names unique)

-- the name by which it is known, with these owners
abbrev pub kept_names : FirstNames → OwnerSet → KnownNames
kept_names kept os unique = if_had os unique (first_of kept unique)

-- what it knows
unfoldable pub state_of : Names → NameState
state_of names = record { owners = names.owners; calls = calls_of names; names = kept_names names.first names.owners }
