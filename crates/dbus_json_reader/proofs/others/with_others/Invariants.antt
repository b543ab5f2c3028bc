use Rattle.std.proofs.Common.{drop, map, IsTrue}
use Rattle.json.specs.Value.{value_view}
use Rattle.dbus_value_model.specs.PackedBytes.{keep_bytes}
use Rattle.dbus_message_model.specs.PackedParts.{field_values}
use Rattle.dbus_message_model.specs.PartsViews.{field_trees}
use Rattle.dbus_json_reader.proofs.Merging.{IsMerging}
use Rattle.dbus_json_reader.proofs.others.with_others.Given as goal

abbrev pub invariant-loop-i : goal.invariant-loop-i
invariant-loop-i g l =
    IsMerging l.integers l.depth (field_trees l.fn.known.items) (map value_view l.items) l.next (field_trees l.fields.items) (map value_view (drop l.i l.items))
    × IsTrue (keep_bytes (field_values l.fields.items))
