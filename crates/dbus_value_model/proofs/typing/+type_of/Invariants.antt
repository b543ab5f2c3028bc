use Rattle.std.proofs.Common.{◌≡◌, map, take}
use Rattle.dbus_types.specs.SigTypes.{type_tree}
use Rattle.dbus_value_model.specs.Values.{type_of as tree_type}
use Rattle.dbus_value_model.specs.ValueViews.{value_tree}
use Rattle.dbus_value_model.proofs.typing.+type_of.Given as goal

abbrev pub invariant-types_of-loop-value : goal.invariant-types_of-loop-value
invariant-types_of-loop-value g l = map type_tree l.types.items ≡ map (λ v. tree_type (value_tree v)) (take l.value-index l.values)
