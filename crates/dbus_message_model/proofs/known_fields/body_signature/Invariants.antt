use Rattle.std.proofs.Common.{◌≡◌, drop}
use Rattle.dbus_message_model.specs.Messages.{body_signature}
use Rattle.dbus_message_model.specs.PartsViews.{field_trees}
use Rattle.dbus_message_model.proofs.known_fields.body_signature.Given as goal

abbrev pub invariant-loop-field : goal.invariant-loop-field
invariant-loop-field g l = body_signature (field_trees (drop l.field-index l.fields)) ≡ body_signature (field_trees l.fields)
