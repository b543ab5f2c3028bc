use Rattle.std.proofs.Common.{◌≡◌, ℕ, ◌<◌, ◌≤◌, Some}
use Rattle.dbus_message_model.specs.MessageTypes.{type_name}
use Rattle.dbus_json_reader.proofs.members.kind_named.Given as goal

abbrev pub invariant-loop-kind : goal.invariant-loop-kind
invariant-loop-kind l = (k : ℕ) → 1 ≤ k → k < l.kind → type_name k ≡ Some l.name → ⊥
