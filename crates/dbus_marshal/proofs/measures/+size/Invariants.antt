use Rattle.std.proofs.Common.{ℕ, Option, drop}
use Rattle.dbus_value_model.specs.SizeLimits.{IsCapped, AreMeasured}
use Rattle.dbus_value_model.specs.Sizes.{HaveShortSignatures}
use Rattle.dbus_value_model.specs.ValueViews.{value_trees_of}
use Rattle.dbus_marshal.proofs.measures.+size.Given as goal

abbrev pub invariant-measure_all-loop-value : goal.invariant-measure_all-loop-value
invariant-measure_all-loop-value g l =
    ((r : Option ℕ) → AreMeasured l.limits.array (value_trees_of (drop l.value-index l.values)) l.end r → AreMeasured l.limits.array (value_trees_of l.values) l.at r) × (IsCapped l.end)
    × HaveShortSignatures (value_trees_of (drop l.value-index l.values))
