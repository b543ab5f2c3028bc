use Rattle.std.proofs.Common.{◌≡◌, ◌-◌, ℕ, List, IsTrue}
use Rattle.dbus_value_model.specs.PackedBytes.{keep_bytes}
use Rattle.dbus_message_model.specs.Messages.{FieldTree}
use Rattle.dbus_message_model.specs.PackedParts.{field_values}
use Rattle.dbus_message_model.specs.PartsViews.{field_trees}
use Rattle.dbus_walk.specs.Fields.{FieldsStand}
use Rattle.dbus_walk.proofs.FieldParts.{Walked}
use Rattle.dbus_decode.proofs.building.build_fields.Given as goal

abbrev pub invariant-loop-place : goal.invariant-loop-place
invariant-loop-place g l = record {
  packed : IsTrue (keep_bytes (field_values l.fields.items));
  built : (fs : List FieldTree) (rest : List ℕ) → FieldsStand l.source l.depth_left fs rest → Walked l.source l.depth_left l.end fs rest (λ done. field_trees l.fields.items ≡ done) l.place;
}

abbrev pub decreases-loop-place : goal.decreases-loop-place
decreases-loop-place g l = l.end - l.place
