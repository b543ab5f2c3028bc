use Rattle.std.proofs.Common.{◌≡◌, ◌-◌, ℕ, List, length}
use Rattle.dbus_message_model.specs.Messages.{FieldTree}
use Rattle.dbus_walk.specs.Fields.{FieldsStand}
use Rattle.dbus_walk.proofs.FieldParts.{Walked}
use Rattle.dbus_swap.proofs.ByteswappedFields.{FieldsByteswapped}
use Rattle.dbus_swap.proofs.fields.byteswap_fields.Given as goal

abbrev pub invariant-loop-place : goal.invariant-loop-place
invariant-loop-place l = record {
  as_long : length l.out ≡ length l.source.bytes.now;
  byteswapped : (fs : List FieldTree) (rest : List ℕ) → FieldsStand l.source l.depth_left fs rest → Walked l.source l.depth_left l.end fs rest (FieldsByteswapped l.source.order fs l.fn.out l.out l.place) l.place;
}

abbrev pub decreases-loop-place : goal.decreases-loop-place
decreases-loop-place l = l.end - l.place
