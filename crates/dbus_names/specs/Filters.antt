-- Which names are wanted. D-Bus Specification, "Bus names".
use Rattle.std.specs.Prelude.{ℕ, List, Bool, ◌&&◌}
use Rattle.dbus_texts.specs.ComputedKinds.{is_kind}
use Rattle.dbus_texts.specs.declared.text_kind.TextKind.TheVariants.{BusName}
use Rattle.dbus_calls.specs.Answering.{is_ownable}

-- a bus name that a connection may have beside its unique one
abbrev pub is_well_known : List ℕ → Bool
is_well_known name = is_ownable name && is_kind BusName name
