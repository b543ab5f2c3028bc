use Rattle.std.proofs.Common.{◌≡◌, map, take}
use Rattle.dbus_value_model.specs.PackedBytes.{packing}
use Rattle.dbus_value_model.specs.ValueViews.{value_tree}
use Rattle.dbus_value_model.proofs.copying.+copy.Given as goal

abbrev pub invariant-copy_all-loop-value : goal.invariant-copy_all-loop-value
invariant-copy_all-loop-value g l = record {
  equal : map value_tree l.copies.items ≡ map value_tree (take l.value-index l.values);
  same_bytes : map packing l.copies.items ≡ map packing (take l.value-index l.values);
}
