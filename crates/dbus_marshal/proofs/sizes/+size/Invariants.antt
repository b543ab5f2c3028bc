use Rattle.std.proofs.Common.{◌≡◌, ◌≤◌, drop}
use Rattle.dbus_value_model.specs.Sizes.{sizes, HaveShortSignatures}
use Rattle.dbus_value_model.specs.ValueViews.{value_trees_of}
use Rattle.dbus_marshal.proofs.sizes.+size.Given as goal

abbrev pub invariant-size_values-loop-value : goal.invariant-size_values-loop-value
invariant-size_values-loop-value g l =
    (sizes l.limits (value_trees_of (drop l.value-index l.values)) l.bound l.at ≡ sizes l.limits (value_trees_of l.values) l.bound l.offset) × (l.at ≤ l.limits.message)
    × HaveShortSignatures (value_trees_of (drop l.value-index l.values))
