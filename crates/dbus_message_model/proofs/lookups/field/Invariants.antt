use Rattle.std.proofs.Common.{◌≡◌, drop}
use Rattle.dbus_message_model.specs.KnownFields.{field_value}
use Rattle.dbus_message_model.specs.PartsViews.{field_trees}
use Rattle.dbus_message_model.proofs.lookups.field.Given as goal

abbrev pub invariant-loop-field : goal.invariant-loop-field
invariant-loop-field g l = field_value l.code (field_trees (drop l.field-index l.field-items)) ≡ field_value l.code (field_trees l.field-items)
