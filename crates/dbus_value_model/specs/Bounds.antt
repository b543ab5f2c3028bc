-- Trusted by the headline.
-- What values keep under limits.
-- D-Bus Specification, "Marshaling (Wire Format)", "Header Fields" for UNIX_FDS.
use Rattle.std.specs.Prelude.{ℕ, Option, None}
use Rattle.dbus_value_model.specs.declared.limits.Limits.{Limits}
use Rattle.dbus_value_model.specs.declared.limits.Bounds.{Bounds}

-- what values keep under limits where the indexes of descriptors are to be below the number fds, if
-- there is one
abbrev pub bounds_with : Limits → Option ℕ → Bounds
bounds_with limits fds = record { array = limits.array; fds = fds; array_in = limits.array_in }

-- what they keep where any index stands
abbrev pub bounds_of : Limits → Bounds
bounds_of limits = bounds_with limits None
