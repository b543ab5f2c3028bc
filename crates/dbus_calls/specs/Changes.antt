-- What the code says of the owner of a name. D-Bus Specification, "Message Bus Names".
use Rattle.dbus_value_model.specs.Values.{ValueTrees, NoValues, MoreValues}
use Rattle.dbus_match.specs.Matching.{Ownership}
use Rattle.dbus_calls.specs.OwnerChanges.{Change}
use Rattle.dbus_calls.specs.OwnerChanges.Change.{Owned, Free, Lost}
use Rattle.dbus_calls.specs.declared.changes.NameOwner.{NameOwner}
use Rattle.dbus_calls.specs.declared.changes.OwnerChange.{OwnerChange}
use Rattle.dbus_calls.specs.declared.changes.OwnerChange.TheVariants as said

abbrev pub owner_seen : NameOwner → Ownership
owner_seen o = record { name = o.name.now; unique = o.unique.now }

abbrev pub change_seen : OwnerChange → Change
change_seen (said.Owned o) = Owned (owner_seen o)
change_seen (said.Free name) = Free name.now
change_seen (said.Lost o) = Lost (owner_seen o)

-- the values after the first
abbrev pub others : ValueTrees → ValueTrees
others NoValues = NoValues
others (MoreValues x xs) = xs
