use Rattle.std.proofs.Common.{◌≡◌, ◌≤◌, drop, length, take}
use Rattle.dbus_value_model.specs.SizeLimits.{with_values}
use Rattle.dbus_value_model.specs.Sizes.{HaveShortSignatures}
use Rattle.dbus_value_model.specs.ValueViews.{value_trees_of}
use Rattle.dbus_marshal.proofs.marshalling.+write.Given as goal

abbrev pub invariant-write_values-loop-value : goal.invariant-write_values-loop-value
invariant-write_values-loop-value g l = record {
  left : with_values l.order (value_trees_of (drop l.value-index l.values)) (take l.place l.out) ≡ with_values l.order (value_trees_of l.values) (take l.at l.fn.out);
  within : l.place ≤ length l.out;
  signed : HaveShortSignatures (value_trees_of (drop l.value-index l.values));
}
