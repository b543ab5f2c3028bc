use Rattle.std.proofs.Common.{◌≡◌, [], reverse, take, drop}
use Rattle.dbus_build.specs.BuildFaults.{twice}
use Rattle.dbus_message_model.specs.PartsViews.{field_trees}
use Rattle.dbus_build.proofs.faulty_fields.first_twice.Given as goal

abbrev pub invariant-loop-i : goal.invariant-loop-i
invariant-loop-i g l = twice (reverse (field_trees (take l.i l.fields))) (field_trees (drop l.i l.fields)) ≡ twice [] (field_trees l.fields)
