use Rattle.std.proofs.Common.{take}
use Rattle.dbus_value_model.specs.Verdicts.{ArePartsVerdict}
use Rattle.dbus_value_model.proofs.checking.+check.Given as goal

abbrev pub invariant-check_all-loop-value : goal.invariant-check_all-loop-value
invariant-check_all-loop-value g l = ArePartsVerdict l.depth_left (take l.value-index l.values) l.found
