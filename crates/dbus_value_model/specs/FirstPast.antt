-- Which of several values is the first that has an index of a descriptor not below a number.
-- D-Bus Specification, "Header Fields" for UNIX_FDS.
use Rattle.std.specs.Prelude.{◌≡◌, ◌⊎◌, ℕ, ◌+◌, Option, Some, None}
use Rattle.dbus_value_model.specs.Values.{ValueTrees, NoValues, MoreValues}
use Rattle.dbus_value_model.specs.FdIndexes.{AreIndexesBelow}

-- r is the number of the first value that has an index not below fds, or nothing where none has; n
-- is the number of the first value
abbrev pub IsFirstPast : Option ℕ → ℕ → ValueTrees → Option ℕ → Type 0
IsFirstPast fds n NoValues r = r ≡ None
IsFirstPast fds n (MoreValues x xs) r = ((AreIndexesBelow fds x → ⊥) × (r ≡ Some n)) ⊎ (AreIndexesBelow fds x × IsFirstPast fds (n + 1) xs r)
