use Rattle.std.proofs.Common.{◌≡◌, ℕ, ◌<◌, ◌≤◌, true}
use Rattle.dbus_message_model.specs.Messages.{is_known}
use Rattle.dbus_show.specs.ShownMessages.{field_name}
use Rattle.dbus_json_reader.proofs.names.field_named.Given as goal

abbrev pub invariant-loop-code : goal.invariant-loop-code
invariant-loop-code l = (k : ℕ) → 1 ≤ k → k < l.code → is_known k ≡ true → l.name ≡ field_name k → ⊥
