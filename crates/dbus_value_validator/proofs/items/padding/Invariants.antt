use Rattle.std.proofs.Common.{◌≡◌, ◌-◌, drop}
use Rattle.dbus_value_model.specs.Reading.{zeros}
use Rattle.dbus_value_validator.proofs.items.padding.Given as goal

abbrev pub invariant-loop-i : goal.invariant-loop-i
invariant-loop-i l = zeros (l.i-end - l.i) l.i (drop l.i l.bytes) ≡ zeros l.gap l.fn.at (drop l.fn.at l.bytes)
