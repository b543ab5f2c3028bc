use Rattle.std.proofs.Common.{◌-◌, ℕ, List}
use Rattle.dbus_message_model.specs.Messages.{FieldTree}
use Rattle.dbus_walk.proofs.FieldParts.{Walked}
use Rattle.dbus_walk.specs.Fields.{FieldsLeft}
use Rattle.dbus_flatten.proofs.FieldsThere.{FieldsFlat}
use Rattle.dbus_flatten.proofs.parts.flatten_parts.Given as goal

abbrev pub invariant-loop-at : goal.invariant-loop-at
invariant-loop-at l = (fs : List FieldTree) (rest : List ℕ) → FieldsLeft l.source l.depth_left 16 l.end fs rest → Walked l.source l.depth_left l.end fs rest (FieldsFlat l.source.order l.initial.flattener l.flattener l.at) l.at

abbrev pub decreases-loop-at : goal.decreases-loop-at
decreases-loop-at l = l.end - l.at
