use Rattle.std.proofs.Common.{◌≡◌, drop}
use Rattle.dbus_message_model.specs.Messages.{lacks}
use Rattle.dbus_message_model.specs.PartsViews.{field_trees}
use Rattle.dbus_message_model.proofs.known_fields.first_missing.Given as goal

abbrev pub invariant-loop-code : goal.invariant-loop-code
invariant-loop-code g l = lacks (drop l.code-index l.codes) (field_trees l.fields) ≡ lacks l.codes (field_trees l.fields)
