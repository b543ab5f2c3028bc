use Rattle.std.proofs.Common.{ℕ, take, IsTrue}
use Rattle.json.specs.Value.{members_view}
use Rattle.dbus_value_model.specs.PackedBytes.{keep_bytes}
use Rattle.dbus_message_model.specs.PackedParts.{field_values}
use Rattle.dbus_message_model.specs.PartsViews.{field_trees}
use Rattle.dbus_json.specs.declared.integers.Integers.{Integers}
use Rattle.dbus_json_reader.proofs.KnownFields.{AreRead}
use Rattle.dbus_json_reader.proofs.known.read_known_fields.Given as goal

abbrev pub invariant-loop-i : goal.invariant-loop-i
invariant-loop-i g l = ((integers : Integers) (depth : ℕ) → AreRead integers depth (field_trees l.fields.items) (members_view (take l.i l.members))) × IsTrue (keep_bytes (field_values l.fields.items))
