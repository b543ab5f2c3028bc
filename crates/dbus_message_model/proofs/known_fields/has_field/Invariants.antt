use Rattle.std.proofs.Common.{◌≡◌, drop}
use Rattle.dbus_message_model.specs.Messages.{has_code}
use Rattle.dbus_message_model.specs.PartsViews.{field_trees}
use Rattle.dbus_message_model.proofs.known_fields.has_field.Given as goal

abbrev pub invariant-loop-field : goal.invariant-loop-field
invariant-loop-field g l = has_code l.code (field_trees (drop l.field-index l.fields)) ≡ has_code l.code (field_trees l.fields)
