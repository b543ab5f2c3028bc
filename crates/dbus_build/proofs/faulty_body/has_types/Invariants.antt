use Rattle.std.proofs.Common.{◌≡◌, ◌++◌, ◌≤◌, None, drop, length, take}
use Rattle.dbus_texts.specs.Types.{sigs}
use Rattle.dbus_value_model.specs.Values.{types_of}
use Rattle.dbus_value_model.specs.ValueViews.{value_trees_of}
use Rattle.dbus_build.specs.BuildFaults.{IsFirstWithout, IsSound}
use Rattle.dbus_build.proofs.faulty_body.has_types.Given as goal

abbrev pub invariant-loop-value : goal.invariant-loop-value
invariant-loop-value g l = record {
  sound : IsFirstWithout IsSound (λ n v. n) l.value-index (drop l.value-index l.values) None;
  on : take l.end l.spelled ++ sigs (types_of (value_trees_of (drop l.value-index l.values))) ≡ sigs (types_of (value_trees_of l.values));
  long : length l.spelled ≡ length l.signature;
  within : l.end ≤ length l.signature;
}
