use Rattle.std.proofs.Common.{◌≡◌, drop}
use Rattle.dbus_types.specs.SigTypes.{type_trees_of}
use Rattle.dbus_value_model.proofs.same_types.+same_type.Given as goal

abbrev pub invariant-same_types-loop-i : goal.invariant-same_types-loop-i
invariant-same_types-loop-i g l = type_trees_of (drop l.i l.types) ≡ type_trees_of (drop l.i l.others) → type_trees_of l.types ≡ type_trees_of l.others
