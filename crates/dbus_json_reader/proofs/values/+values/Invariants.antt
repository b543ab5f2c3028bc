use Rattle.std.proofs.Common.{◌-◌, ◌*◌, suc, length, drop, IsTrue}
use Rattle.json.specs.Tree.{json_tokens}
use Rattle.json.specs.Value.{value_view, items_view}
use Rattle.dbus_types.specs.SigTypes.{type_tree, type_trees_of}
use Rattle.dbus_value_model.specs.PackedBytes.{keep_bytes}
use Rattle.dbus_json_reader.specs.JsonValues.{AreElements, AreRead}
use Rattle.dbus_json_reader.proofs.Going.{IsGoing}
use Rattle.dbus_json_reader.proofs.values.+values.Given as goal

abbrev pub decreases-read_value : goal.decreases-read_value
decreases-read_value g l = suc (2 * length (json_tokens (value_view l.json.now)))

abbrev pub decreases-read_values : goal.decreases-read_values
decreases-read_values g l = 2 * length (json_tokens (value_view l.json.now))

abbrev pub decreases-read_entry : goal.decreases-read_entry
decreases-read_entry g l = 2 * length (json_tokens (value_view l.json.now))

abbrev pub decreases-read_array : goal.decreases-read_array
decreases-read_array g l = 2 * length (json_tokens (value_view l.json.now))

abbrev pub decreases-read_variant : goal.decreases-read_variant
decreases-read_variant g l = 2 * length (json_tokens (value_view l.json.now))

abbrev pub invariant-read_array-loop-i : goal.invariant-read_array-loop-i
invariant-read_array-loop-i g l =
    let each = AreElements l.integers (l.depth - 1) (type_tree l.element) in
    IsGoing each each (items_view l.items) (items_view (drop l.i l.items)) l.values.items × IsTrue (keep_bytes l.values.items)

abbrev pub invariant-read_values-loop-i : goal.invariant-read_values-loop-i
invariant-read_values-loop-i g l =
    IsGoing (AreRead l.integers l.depth (type_trees_of l.types)) (AreRead l.integers l.depth (type_trees_of (drop l.i l.types))) (items_view l.items) (items_view (drop l.i l.items)) l.values.items × IsTrue (keep_bytes l.values.items)
