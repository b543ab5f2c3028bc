use Rattle.std.proofs.Common.{◌≡◌, drop}
use Rattle.dbus_message_model.specs.Messages.{fd_count}
use Rattle.dbus_message_model.specs.PartsViews.{field_trees}
use Rattle.dbus_message_model.proofs.known_fields.fd_count.Given as goal

abbrev pub invariant-loop-field : goal.invariant-loop-field
invariant-loop-field g l = fd_count (field_trees (drop l.field-index l.fields)) ≡ fd_count (field_trees l.fields)
