use Rattle.std.proofs.Common.{◌≡◌, ◌+◌, ◌++◌, drop, length, take}
use Rattle.dbus_texts.specs.Types.{sigs}
use Rattle.dbus_value_model.specs.Values.{types_of}
use Rattle.dbus_value_model.specs.ValueViews.{value_trees_of}
use Rattle.dbus_marshal.proofs.signatures.+write_type_of.Given as goal

abbrev pub invariant-write_types_of-loop-value : goal.invariant-write_types_of-loop-value
invariant-write_types_of-loop-value g l = record {
  joined : take l.place l.out ++ sigs (types_of (value_trees_of (drop l.value-index l.values))) ≡ take l.at l.fn.out ++ sigs (types_of (value_trees_of l.values));
  ends : l.place + length (sigs (types_of (value_trees_of (drop l.value-index l.values)))) ≡ l.at + length (sigs (types_of (value_trees_of l.values)));
}
